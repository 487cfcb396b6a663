-- The data of a record, as text.
use Rattle.std.specs.Prelude.{◌≡◌, ◌⊎◌, ℕ, ◌-◌, List, [], ◌∷◌, length, drop, min, Ok}
use Rattle.domain_descriptor.specs.Table.{known_fields}
use Rattle.domain_rdata_text.specs.Texts.{text_octets, IsGenericText, IsPlain}
use Rattle.domain_make.specs.Words.{WordAt}

-- where the first of these words begins in a line of n octets, or the end of the line where there is none
abbrev pub begin_of : ℕ → List WordAt → ℕ
begin_of n [] = n
begin_of n (w ∷ ws) = min (w.column - 1) n

-- the text of a line from the first of these words on
abbrev pub text_from : List ℕ → List WordAt → List ℕ
text_from line words = drop (begin_of (length line) words) line

-- There is no word, and the class says that no data is meant: NONE or ANY (RFC 2136, 2.4 and 2.5).
abbrev pub MeansNone : ℕ → List WordAt → Type 0
MeansNone class words = (words ≡ []) × ((class ≡ 254) ⊎ (class ≡ 255))

-- The line from these words on is the data of a record of this type and class: its fields one by one, or after `\#`
-- any octets that are data of the type (RFC 3597, 5). Or no data is meant.
pub data IsData (rtype class : ℕ) (line : List ℕ) (words : List WordAt) (octets : List ℕ) : Type 0 where
  nothing : MeansNone class words → octets ≡ [] → IsData rtype class line words octets
  says : (MeansNone class words → ⊥) → text_octets (known_fields rtype class) (text_from line words) ≡ Ok octets
      → (IsGenericText (text_from line words) → IsPlain (known_fields rtype class) octets) → IsData rtype class line words octets
