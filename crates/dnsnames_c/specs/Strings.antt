-- Character strings in the data of records, one after another (RFC 1035, 3.3 and 3.3.14). The data are octets of the
-- message from p on, so many.
use denote.Bor.{Bor}
use Rattle.std.specs.Prelude.{◌≡◌, ◌⊎◌, ℕ, ◌+◌, ◌≤◌, ◌<◌, List, [], ◌∷◌, length, take, Option, MatchOption}
use Rattle.domain_descriptor.specs.Table.{known_fields}
use Rattle.domain_descriptor.specs.declared.kind.FieldKind.TheVariants.{CharStrings}
use Rattle.domain_strings.specs.CharStrings.{CharStringAt, NoCharString}
use Rattle.domain_wire.specs.declared.error.ParseError.TheVariants.{ShortInput}

-- Data of this type are one string or more, and nothing else.
abbrev pub AreStrings : ℕ → Type 0
AreStrings rtype = known_fields rtype 1 ≡ CharStrings ∷ []

-- The string was found that is at p, and is whole; or none, and none is there.
abbrev pub FindsCharString : List ℕ → ℕ → Option (Bor (List ℕ)) → Type 0
FindsCharString octets p found =
    MatchOption found (NoCharString octets p ShortInput)
    (λ s. CharStringAt octets p s.now (p + 1 + length s.now) × (p + 1 + length s.now ≤ length octets))

-- The data are of a type of strings, and all of their octets were passed.
pub record NoStringLeft (message : List ℕ) (p len rtype passed : ℕ) : Type 0 where
  pub typed : AreStrings rtype
  pub inside : p + len ≤ length message
  pub some : 0 < passed
  pub all : len ≤ passed

-- After those that were passed comes the string s, and it ends inside the data.
pub record HasString (message : List ℕ) (p len rtype passed : ℕ) (s : List ℕ) : Type 0 where
  pub typed : AreStrings rtype
  pub inside : p + len ≤ length message
  pub string : CharStringAt (take (p + len) message) (p + passed) s (p + passed + 1 + length s)
  pub ends : passed + 1 + length s ≤ len

-- They are of such a type, but end past the message, or in the string, or have no octet.
abbrev pub CutString : List ℕ → ℕ → ℕ → ℕ → ℕ → Type 0
CutString message p len rtype passed =
    (AreStrings rtype × (length message < p + len))
    ⊎ (AreStrings rtype × (p + len ≤ length message) × (passed ≤ len)
    × NoCharString (take (p + len) message) (p + passed) ShortInput)

-- No string comes there, and the number of why: all were passed (27), the type is another (21), or the octets end too
-- soon (1).
abbrev pub GivesNoString : List ℕ → ℕ → ℕ → ℕ → ℕ → ℕ → Type 0
GivesNoString message p len rtype status passed =
    ((status ≡ 27) × NoStringLeft message p len rtype passed)
    ⊎ ((status ≡ 21) × (AreStrings rtype → ⊥))
    ⊎ ((status ≡ 1) × CutString message p len rtype passed)

-- The string after the octets passed before was given, and is now passed with them (0). Otherwise nothing changed.
abbrev pub GivesDataString : List ℕ → ℕ → ℕ → ℕ → ℕ → ℕ → ℕ → ℕ → ℕ → ℕ → ℕ → Type 0
GivesDataString message p data_len rtype status old_passed passed old_string string old_len len =
    ((status ≡ 0) × (s : List ℕ) × HasString message p data_len rtype old_passed s
    × (string ≡ p + old_passed + 1) × (len ≡ length s)
    × (passed ≡ old_passed + 1 + length s))
    ⊎ (GivesNoString message p data_len rtype status old_passed × (passed ≡ old_passed)
    × (string ≡ old_string) × (len ≡ old_len))
