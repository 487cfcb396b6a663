-- What is reported of words that are no question and no record: the first fault, and the column of the part that has
-- it.
use Rattle.std.specs.Prelude.{◌≡◌, ◌≢◌, ◌⊎◌, ℕ, ◌<◌, true, false, List, [], ◌∷◌, length}
use Rattle.domain_message_builder.specs.Contents.{RecordHead}
use Rattle.domain_make.specs.Stops.{Tells, TellsMissing, NoName, NoNumber32, NoData}
use Rattle.domain_make.specs.Parts.{IsNameWord, IsNumber32}
use Rattle.domain_make.specs.Words.{WordAt}
use Rattle.domain_make.specs.declared.error.Fault.{Fault}
use Rattle.domain_make.specs.declared.error.Fault.TheVariants as fault
use Rattle.domain_make.specs.Entries.{IsClassWord, IsTypeWord, begins_with_digit, AreStated, IsRecordWords, first_column}

-- The word names no class.
abbrev pub NoClass : WordAt → Fault → ℕ → Type 0
NoClass w f c = TellsMissing (IsClassWord w.octets) fault.Class w.column f c

-- The word names no type.
abbrev pub NoType : WordAt → Fault → ℕ → Type 0
NoType w f c = TellsMissing (IsTypeWord w.octets) fault.Rtype w.column f c

-- The words are no question: not three, or the first that isn't what stands there has this fault.
pub data NoQuestionWords (words : List WordAt) (f : Fault) (c : ℕ) : Type 0 where
  number : length words ≢ 3 → Tells fault.Question (first_column words) f c → NoQuestionWords words f c
  name : (n k t : WordAt) → words ≡ n ∷ k ∷ t ∷ [] → NoName n f c → NoQuestionWords words f c
  class : (n k t : WordAt) (ls : List (List ℕ)) → words ≡ n ∷ k ∷ t ∷ [] → IsNameWord n.octets ls → NoClass k f c → NoQuestionWords words f c
  rtype : (n k t : WordAt) (ls : List (List ℕ)) (class : ℕ) → words ≡ n ∷ k ∷ t ∷ [] → IsNameWord n.octets ls → IsClassWord k.octets class → NoType t f c → NoQuestionWords words f c

-- The two words aren't a TTL and a class, in either order: the first of them that isn't what stands there has this
-- fault.
pub data NoStated (first second : WordAt) (f : Fault) (c : ℕ) : Type 0 where
  no_ttl : begins_with_digit first.octets ≡ true → NoNumber32 first f c → NoStated first second f c
  ttl_alone : (n : ℕ) → begins_with_digit first.octets ≡ true → IsNumber32 first.octets n → NoClass second f c → NoStated first second f c
  no_class : begins_with_digit first.octets ≡ false → NoClass first f c → NoStated first second f c
  class_alone : (n : ℕ) → begins_with_digit first.octets ≡ false → IsClassWord first.octets n → NoNumber32 second f c → NoStated first second f c

-- The words begin as a record: with an owner, a TTL and a class in either order, a type.
pub record BeginsRecord (words : List WordAt) (rtype class : ℕ) (type_word : WordAt) (rest : List WordAt) : Type 0 where
  pub owner : WordAt
  pub first : WordAt
  pub second : WordAt
  pub labels : List (List ℕ)
  pub seconds : ℕ
  pub parts : words ≡ owner ∷ first ∷ second ∷ type_word ∷ rest
  pub owner_is : IsNameWord owner.octets labels
  pub stated_are : AreStated first second seconds class
  pub type_is : IsTypeWord type_word.octets rtype

-- The words of the line are no record: fewer than four, or the first that isn't what stands there has this fault.
pub data NoRecordWords (line : List ℕ) (words : List WordAt) (f : Fault) (c : ℕ) : Type 0 where
  few : length words < 4 → Tells fault.Record (first_column words) f c → NoRecordWords line words f c
  owner : (o a b t : WordAt) (rest : List WordAt) → words ≡ o ∷ a ∷ b ∷ t ∷ rest → NoName o f c → NoRecordWords line words f c
  stated : (o a b t : WordAt) (rest : List WordAt) (ls : List (List ℕ)) → words ≡ o ∷ a ∷ b ∷ t ∷ rest → IsNameWord o.octets ls → NoStated a b f c → NoRecordWords line words f c
  rtype : (o a b t : WordAt) (rest : List WordAt) (ls : List (List ℕ)) (n class : ℕ) → words ≡ o ∷ a ∷ b ∷ t ∷ rest → IsNameWord o.octets ls → AreStated a b n class
      → NoType t f c → NoRecordWords line words f c
  rdata : (rtype class : ℕ) (t : WordAt) (rest : List WordAt) → BeginsRecord words rtype class t rest → NoData rtype class line rest f c → NoRecordWords line words f c

-- The words are a record whose data has more octets than its length tells (RFC 1035, 3.2.1).
pub record LongRecord (line : List ℕ) (words : List WordAt) (f : Fault) (c : ℕ) : Type 0 where
  pub head : RecordHead
  pub octets : List ℕ
  pub record_is : IsRecordWords line words head octets
  pub long : 65535 < length octets
  pub told : Tells fault.Octets (first_column words) f c

-- The words are no record, or one whose data has too many octets for its length.
abbrev pub NoFittingRecord : List ℕ → List WordAt → Fault → ℕ → Type 0
NoFittingRecord line words f c = NoRecordWords line words f c ⊎ LongRecord line words f c
