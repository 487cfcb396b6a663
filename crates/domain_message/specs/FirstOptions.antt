-- The first option of a code (RFC 6891, 6.1.2).
use Rattle.std.specs.Prelude.{◌≡◌, ◌≢◌, ◌⊎◌, ℕ, ◌<◌, List, [], length, Option, None, Some}
use Rattle.domain_wire.specs.Refusals.{Refusal, refusal}
use Rattle.domain_wire.specs.Refusals.Refusal.{short_input}
use Rattle.domain_wire.specs.declared.error.ParseError.{ParseError}
use Rattle.domain_message.specs.Options.{BeginsWithOption, EndsInOption}
use Rattle.domain_message.specs.declared.edns_options.EdnsOption.{EdnsOption}

-- Whole options of other codes are first in the octets, and these octets follow them.
pub data PassesOthers (code : ℕ) (octets : List ℕ) : List ℕ → Type 0 where
  at_once : PassesOthers code octets octets
  after_one : {other : ℕ} {before data_octets rest : List ℕ} → PassesOthers code octets before
      → BeginsWithOption before other data_octets rest → other ≢ code
      → PassesOthers code octets rest

-- The first option of this code has this data. What follows it is ignored, other options of the code too.
abbrev pub IsFirstOption : ℕ → List ℕ → List ℕ → Type 0
IsFirstOption code octets data_octets =
    (from rest : List ℕ) × PassesOthers code octets from
    × BeginsWithOption from code data_octets rest

-- The octets are whole options, and none is of this code.
abbrev pub HasNoOption : ℕ → List ℕ → Type 0
HasNoOption code octets = PassesOthers code octets []

-- The octets end inside an option, and none before it is of this code.
abbrev pub IsCutBefore : ℕ → List ℕ → Type 0
IsCutBefore code octets =
    (from : List ℕ) × PassesOthers code octets from × (0 < length from) × EndsInOption from

-- This is the first option of the code, or there is none.
abbrev pub FindsOption : ℕ → List ℕ → Option EdnsOption → Type 0
FindsOption code octets None = HasNoOption code octets
FindsOption code octets (Some it) = (it.code ≡ code) × IsFirstOption code octets it.«data».now

-- The first option of the code says this, or there is none.
abbrev pub FirstSays : {A : Type 0} → ℕ → (List ℕ → A → Type 0) → List ℕ → Option A → Type 0
FirstSays code Says octets None = HasNoOption code octets
FirstSays code Says octets (Some it) =
    (data_octets : List ℕ) × IsFirstOption code octets data_octets × Says data_octets it

-- The octets end inside an option before there is one of the code. Or the first of the code isn't of its form, for
-- this reason.
abbrev pub FirstFails : ℕ → (List ℕ → Refusal → Type 0) → List ℕ → ParseError → Type 0
FirstFails code IsFault octets e =
    (IsCutBefore code octets × (refusal e ≡ short_input))
    ⊎ ((data_octets : List ℕ) × IsFirstOption code octets data_octets × IsFault data_octets (refusal e))
