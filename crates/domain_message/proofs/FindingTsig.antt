-- How the TSIG record of a message is found.
use Rattle.std.proofs.Common.{◌≡◌, ◌∙◌, ℕ, List, sym, ap, subst, inl, inr}
use Rattle.std.specs.Prelude.{Bool, false, nat_eq, Option, Some, Result, Err}
use Rattle.octseq.specs.declared.octets.Octets.{Ghosts}
use Rattle.octseq.specs.Parsing.{message, position}
use Rattle.domain_wire.specs.declared.error.ParseError.{ParseError}
use Rattle.domain_parsed.specs.declared.parsed.ParsedName.{ParsedName}
use Rattle.domain_header.specs.Numbers.{number16}
use Rattle.domain_message.specs.Entries.{RecordFields}
use Rattle.domain_message.specs.Kept.{keeps, MissesKept, TakesKept, IsMadeOf, HasDataError, GivesKept, kept_parser, kept_left, kept_class}
use Rattle.domain_message.specs.Sections.{Begins, entries_left, records_message, records_offset, records_left}
use Rattle.domain_message.specs.declared.section.RecordSection.{RecordSection}
use Rattle.domain_message.specs.declared.section.Section.TheVariants.{Additional}
use Rattle.domain_message.specs.declared.kept.RecordIter.{RecordIter}
use Rattle.domain_message.specs.declared.resource_record.Record.{Record}
use Rattle.domain_message.specs.Options.{AreAllThatIsLeft}
use Rattle.domain_message.specs.TsigRecords.{is_tsig, tsig_octets}
use Rattle.domain_message.specs.declared.tsig.TsigData.{TsigData}

-- what `next` gives of TSIG records
abbrev pub GivesTsig : {O : Type 0} (g : Ghosts O) → (ParseError → ParseError → Type 0) → RecordIter TsigData ParseError → Option (Result (Record (ParsedName O g) TsigData) ParseError) → RecordIter TsigData ParseError → Type 0
GivesTsig g Becomes = GivesKept {g = g} (λ _. 250) tsig_octets (λ t. nat_eq t 250) (λ _. AreAllThatIsLeft) (λ _ _ _ _. ⊥) Becomes

-- what it took of the message: at p, with n records left, up to q, with k left
abbrev pub TakesTsig : {O : Type 0} (g : Ghosts O) → (ParseError → ParseError → Type 0) → List ℕ → ℕ → ℕ → Option (Result (Record (ParsedName O g) TsigData) ParseError) → ℕ → ℕ → Type 0
TakesTsig g Becomes = TakesKept is_tsig (IsMadeOf {g = g} (λ _. 250) tsig_octets (λ _. AreAllThatIsLeft)) (HasDataError Becomes (λ _ _ _ _. ⊥)) Becomes

-- a call on an iterator over the additional section took the first TSIG record of it
pub took_first : {O : Type 0} (g : Ghosts O) (Becomes : ParseError → ParseError → Type 0) (m : List ℕ) (e : ℕ) (section : RecordSection) (s t : RecordIter TsigData ParseError) (r : Option (Result (Record (ParsedName O g) TsigData) ParseError))
    → Begins m Additional e section → message (kept_parser s) ≡ records_message section → position (kept_parser s) ≡ records_offset section → kept_left s ≡ entries_left (records_left section) → kept_class s ≡ false
    → GivesTsig g Becomes s r t → TakesTsig g Becomes m e (number16 m 10) r (position (kept_parser t)) (kept_left t)
took_first g Becomes m e section s t r begins octets offset left class gives =
    let Made = IsMadeOf {g = g} (λ _. 250) tsig_octets (λ _. AreAllThatIsLeft) in
    let Broken : RecordFields → ParseError → Type 0 = HasDataError Becomes (λ _ _ _ _. ⊥) in
    let P : Bool → Type 0 = λ b. TakesKept (keeps (λ t. nat_eq t 250) b) Made Broken Becomes (message (kept_parser s)) (position (kept_parser s)) (kept_left s) r (position (kept_parser t)) (kept_left t) in
    let Q : List ℕ → Type 0 = λ o. TakesTsig g Becomes o (position (kept_parser s)) (kept_left s) r (position (kept_parser t)) (kept_left t) in
    let R : ℕ → Type 0 = λ i. TakesTsig g Becomes m i (kept_left s) r (position (kept_parser t)) (kept_left t) in
    let S : ℕ → Type 0 = λ i. TakesTsig g Becomes m e i r (position (kept_parser t)) (kept_left t) in
    subst S (left ∙ ap entries_left begins.left) (subst R (offset ∙ begins.offset) (subst Q (octets ∙ begins.message) (subst P class gives.2)))

-- an error is that of a record that is missing, since data of this type has none
pub tsig_missing : {O : Type 0} (g : Ghosts O) (Becomes : ParseError → ParseError → Type 0) (m : List ℕ) (p n q k : ℕ) (why : ParseError) → ((a b : ParseError) → Becomes a b → b ≡ a) → TakesTsig g Becomes m p n (Some (Err why)) q k → MissesKept is_tsig m p n why
tsig_missing g Becomes m p n q k why becomes (over, inl (other, misses, is)) = subst (λ w. MissesKept is_tsig m p n w) (sym (becomes other why is)) misses
tsig_missing g Becomes m p n q k why becomes (over, inr breaks) = absurd breaks.broken.1
