-- What the first option of a code says is what it is read as.
use Rattle.std.proofs.Common.{◌≡◌, ◌≢◌, ◌<◌, ℕ, List, [], length, ap, subst, inl, inr}
use Rattle.std.specs.Prelude.{Option, Some, None, Result, Ok, Err, IfOk, IfErr}
use Rattle.domain_wire.specs.Refusals.{Refusal, refusal}
use Rattle.domain_wire.specs.declared.error.ParseError.{ParseError}
use Rattle.domain_wire.specs.declared.error.ParseError.TheVariants.{ShortInput}
use Rattle.domain_message.specs.FirstOptions.{PassesOthers, HasNoOption, IsCutBefore, FindsOption, FirstSays, FirstFails}
use Rattle.domain_message.specs.FirstOptions.PassesOthers.{at_once, after_one}
use Rattle.domain_message.specs.KnownViews.{ReadAs, NotReadAs}
use Rattle.domain_message.specs.Options.{BeginsWithOption, EndsInOption}
use Rattle.domain_message.specs.declared.edns_options.EdnsOption.{EdnsOption}

-- ---- finding the first

pub passes_none : (code : ℕ) (octets : List ℕ) → PassesOthers code octets octets
passes_none code octets = at_once

pub passes_more : (code : ℕ) (octets before rest : List ℕ) (option : EdnsOption) → PassesOthers code octets before → BeginsWithOption before option.code option.«data».now rest → option.code ≢ code → PassesOthers code octets rest
passes_more code octets before rest option passes begins differs = after_one passes begins differs

pub finds_one : (code : ℕ) (octets before rest : List ℕ) (option : EdnsOption) → PassesOthers code octets before → BeginsWithOption before option.code option.«data».now rest → option.code ≡ code → FindsOption code octets (Some option)
finds_one code octets before rest option passes begins same =
    (same, (before, rest, passes, subst (λ k. BeginsWithOption before k option.«data».now rest) same begins))

pub finds_none : (code : ℕ) (octets rest : List ℕ) → PassesOthers code octets rest → rest ≡ [] → HasNoOption code octets
finds_none code octets rest passes none = subst (λ r. PassesOthers code octets r) none passes

pub finds_cut : (code : ℕ) (octets rest : List ℕ) → PassesOthers code octets rest → (0 < length rest) → EndsInOption rest → IsCutBefore code octets
finds_cut code octets rest passes some ends = (rest, passes, some, ends)

-- ---- and what it says

pub says_first : {A E : Type 0} (r : Result (Option A) E) (code : ℕ) (Says : List ℕ → A → Type 0) (octets : List ℕ) (option : EdnsOption) → FindsOption code octets (Some option) → IfOk r (ReadAs code Says option) → IfOk r (FirstSays code Says octets)
says_first (Ok None) code Says octets option found read = absurd (read found.0)
says_first (Ok (Some it)) code Says octets option found read = (option.«data».now, found.1, read.1)
says_first (Err e) code Says octets option found read = read

pub says_option : {A : Type 0} (r : Option A) (code : ℕ) (Says : List ℕ → A → Type 0) (octets : List ℕ) (option : EdnsOption) → FindsOption code octets (Some option) → ReadAs code Says option r → FirstSays code Says octets r
says_option None code Says octets option found read = absurd (read found.0)
says_option (Some it) code Says octets option found read = (option.«data».now, found.1, read.1)

pub fails_first : {A : Type 0} (r : Result A ParseError) (code : ℕ) (IsFault : List ℕ → Refusal → Type 0) (octets : List ℕ) (option : EdnsOption) → FindsOption code octets (Some option) → IfErr r (NotReadAs code IsFault option) → IfErr r (FirstFails code IsFault octets)
fails_first (Ok it) code IsFault octets option found read = read
fails_first (Err e) code IsFault octets option found read = inr (option.«data».now, found.1, read.1)

pub fails_cut : (e : ParseError) (code : ℕ) (IsFault : List ℕ → Refusal → Type 0) (octets : List ℕ) → IsCutBefore code octets → e ≡ ShortInput → FirstFails code IsFault octets e
fails_cut e code IsFault octets cut short = inl (cut, ap refusal short)
