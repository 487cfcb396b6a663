-- Questions and records, as words; and what a word is of them alone: a class, a type.
use Rattle.std.specs.Prelude.{◌≡◌, ℕ, Bool, true, false, List, [], ◌∷◌, codes, Some, ◌&&◌, nat_le}
use Rattle.std.specs.Str.{IsUtf8}
use Rattle.domain_header.specs.Numbered.{Named}
use Rattle.domain_header.specs.Rtypes.{rtype_rows}
use Rattle.domain_header.specs.Tables.{class_rows}
use Rattle.domain_message.specs.Entries.{QuestionFields}
use Rattle.domain_message_builder.specs.Contents.{RecordHead}
use Rattle.domain_make.specs.Data.{IsData}
use Rattle.domain_make.specs.Parts.{IsNameWord, IsNumber32}
use Rattle.domain_make.specs.Words.{WordAt}

-- The word names the class of this number: by its mnemonic, or as `CLASS` and the number (RFC 3597, 5).
abbrev pub IsClassWord : List ℕ → ℕ → Type 0
IsClassWord word n = IsUtf8 word × Named class_rows (codes "CLASS") word (Some n)

-- The same of a type.
abbrev pub IsTypeWord : List ℕ → ℕ → Type 0
IsTypeWord word n = IsUtf8 word × Named rtype_rows (codes "TYPE") word (Some n)

-- the column of the first word, or 1 where there is none
abbrev pub first_column : List WordAt → ℕ
first_column [] = 1
first_column (w ∷ ws) = w.column

-- The words are this question: its name, its class and its type.
pub record IsQuestionWords (words : List WordAt) (q : QuestionFields) : Type 0 where
  pub name : WordAt
  pub class : WordAt
  pub rtype : WordAt
  pub parts : words ≡ name ∷ class ∷ rtype ∷ []
  pub name_is : IsNameWord name.octets q.name
  pub class_is : IsClassWord class.octets q.class
  pub type_is : IsTypeWord rtype.octets q.rtype

-- whether a word begins with a digit, as each TTL does, and no class
abbrev pub begins_with_digit : List ℕ → Bool
begins_with_digit [] = false
begins_with_digit (c ∷ cs) = nat_le 48 c && nat_le c 57

-- Two words are a TTL and a class, in either order (RFC 1035, 5.1).
pub data AreStated (first second : WordAt) (ttl class : ℕ) : Type 0 where
  ttl_first : begins_with_digit first.octets ≡ true → IsNumber32 first.octets ttl → IsClassWord second.octets class → AreStated first second ttl class
  class_first : begins_with_digit first.octets ≡ false → IsClassWord first.octets class → IsNumber32 second.octets ttl → AreStated first second ttl class

-- The words of the line are a record with this head and these octets of data: its owner, its TTL and class in either
-- order, its type and its data.
pub record IsRecordWords (line : List ℕ) (words : List WordAt) (head : RecordHead) (octets : List ℕ) : Type 0 where
  pub owner : WordAt
  pub first : WordAt
  pub second : WordAt
  pub rtype : WordAt
  pub rest : List WordAt
  pub parts : words ≡ owner ∷ first ∷ second ∷ rtype ∷ rest
  pub owner_is : IsNameWord owner.octets head.owner
  pub stated_are : AreStated first second head.ttl head.class
  pub type_is : IsTypeWord rtype.octets head.rtype
  pub data_is : IsData head.rtype head.class line rest octets
