-- Types of records as text (RFC 1035, 3.2.2; RFC 3597, 5).
use Rattle.std.specs.Prelude.{ℕ, List, [], ◌∷◌, codes, Option, Some, None, Result, Ok, Err, if◌then◌else◌}
use Rattle.domain_header.specs.Mnemonics.{Row}
use Rattle.domain_header.specs.Rtypes.{rtype_rows, rtype_text}
use Rattle.domain_label.specs.Lowercase.{eq_ignoring_case}
use Rattle.domain_rdata_text.specs.declared.error.Fault.{Fault}
use Rattle.domain_rdata_text.specs.declared.error.Reason.TheVariants.{Rtype}
use Rattle.domain_rdata_text.specs.Addresses.{with_number}
use Rattle.domain_rdata_text.specs.Numbers.{read_number}
use Rattle.domain_rdata_text.specs.Outcome.{fault}
use Rattle.domain_rdata_text.specs.Words.{WordAt}

-- a type by its mnemonic, or `TYPE` and its number where it has none
unfoldable pub type_text : ℕ → List ℕ
type_text n = rtype_text n

-- the number in the first row of a word, ignoring ASCII case
abbrev pub number_of_word : List Row → List ℕ → Option ℕ
number_of_word [] w = None
number_of_word (row ∷ rows) w = if eq_ignoring_case row.word w then Some row.number else number_of_word rows w

-- the number after `TYPE`
abbrev pub number_after_type : List ℕ → Option ℕ
number_after_type [] = None
number_after_type (t ∷ []) = None
number_after_type (t ∷ y ∷ []) = None
number_after_type (t ∷ y ∷ p ∷ []) = None
number_after_type (t ∷ y ∷ p ∷ e ∷ ds) =
    if eq_ignoring_case (codes "TYPE") (t ∷ y ∷ p ∷ e ∷ []) then read_number 65536 ds else None

-- a number, or else that after `TYPE`
abbrev pub or_after_type : Option ℕ → List ℕ → Option ℕ
or_after_type (Some n) w = Some n
or_after_type None w = number_after_type w

-- the type that a word is
unfoldable pub read_type : List ℕ → Option ℕ
read_type w = or_after_type (number_of_word rtype_rows w) w

-- types that were read, or the fault of the word at an offset, which is none
abbrev pub type_or_fault : ℕ → Option (List ℕ) → Result (List ℕ) Fault
type_or_fault offset None = Err (fault offset Rtype)
type_or_fault offset (Some ts) = Ok ts

-- the types after types that words are, as they come (RFC 4034, 4.2)
abbrev pub types_words : Result (List ℕ) Fault → List WordAt → Result (List ℕ) Fault
types_words (Err why) ws = Err why
types_words (Ok ts) [] = Ok ts
types_words (Ok ts) (w ∷ ws) = types_words (type_or_fault w.begin (with_number ts (read_type w.octets))) ws
