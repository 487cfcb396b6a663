-- What was pushed, and the octets that it was composed into.
use Rattle.std.specs.Prelude.{◌≡◌, ℕ, ◌^◌, ◌<◌, Bool, List, [], ◌∷◌, ◌++◌, length}
use Rattle.domain_header.specs.Headers.{question_count, answer_count, authority_count, additional_count}
use Rattle.domain_message.specs.Composing.{QuestionOctets, RecordOctets}
use Rattle.domain_message.specs.Entries.{QuestionFields}
use Rattle.domain_header.specs.declared.counts.HeaderCounts.{HeaderCounts}
use Rattle.domain_message_builder.specs.State.{State}
use Rattle.domain_message_builder.specs.declared.section_starts.SectionStarts.{SectionStarts}

-- The octets that stand for the header until it is written. The two high bits of each are 10, which are reserved (RFC
-- 1035, 4.1.4): neither the root, nor a label, nor a pointer is at any of them, so no name is read through them.
abbrev pub blank_header : List ℕ
blank_header = 128 ∷ 128 ∷ 128 ∷ 128 ∷ 128 ∷ 128 ∷ 128 ∷ 128 ∷ 128 ∷ 128 ∷ 128 ∷ 128 ∷ []

-- what a record says before the length of its data
pub record RecordHead : Type 0 where
  pub owner : List (List ℕ)
  pub rtype : ℕ
  pub class : ℕ
  pub ttl : ℕ

-- a record that was pushed, and the octets of its data exactly as the message has them
pub record PushedRecord : Type 0 where
  pub head : RecordHead
  pub rdata : List ℕ

-- what was pushed, in order
pub record Content : Type 0 where
  pub questions : List QuestionFields
  pub answers : List PushedRecord
  pub authority : List PushedRecord
  pub additional : List PushedRecord

-- nothing
abbrev pub no_content : Content
no_content = record { questions = []; answers = []; authority = []; additional = [] }

-- a question more
abbrev pub question_added : Content → QuestionFields → Content
question_added it q = record it { questions = it.questions ++ q ∷ [] }

-- the octets that this question may be composed into, after the octets t
abbrev pub AsksIn : Bool → QuestionFields → List ℕ → List ℕ → Type 0
AsksIn compresses q t = QuestionOctets q.name q.rtype q.class compresses t

-- the octets that a record with this head, and data that `May` allows, may be composed into, after the octets t
abbrev pub RecordsIn : Bool → RecordHead → (List ℕ → List ℕ → Type 0) → List ℕ → List ℕ → Type 0
RecordsIn compresses head May t = RecordOctets head.owner head.rtype head.class head.ttl May compresses t

-- The octets t, and after them octets that entries may be composed into, one after the other, are u. `May x t s`: the
-- entry x may be composed into s after t.
abbrev pub Composed : {V : Type 0} → (V → List ℕ → List ℕ → Type 0) → List ℕ → List V → List ℕ → Type 0
Composed May t [] u = u ≡ t
Composed May t (x ∷ xs) u = (s : List ℕ) × May x t s × Composed May (t ++ s) xs u

-- A question may be composed into s after t.
pub record QuestionMay (compresses : Bool) (q : QuestionFields) (t s : List ℕ) : Type 0 where
  pub small_type : q.rtype < 2 ^ 16
  pub small_class : q.class < 2 ^ 16
  pub octets : AsksIn compresses q t s

-- A record may be composed into s after t.
pub record RecordMay (compresses : Bool) (r : PushedRecord) (t s : List ℕ) : Type 0 where
  pub small_type : r.head.rtype < 2 ^ 16
  pub small_class : r.head.class < 2 ^ 16
  pub small_ttl : r.head.ttl < 2 ^ 32
  pub octets : RecordsIn compresses r.head (λ before data_octets. data_octets ≡ r.rdata) t s

-- These octets are a blank header and what was composed for this, these counts are the numbers of its entries, and its
-- sections begin at these offsets.
pub record HoldsIn (compresses : Bool) (octets : List ℕ) (counts : HeaderCounts) (starts : SectionStarts) (it : Content) : Type 0 where
  pub after_questions : List ℕ
  pub after_answers : List ℕ
  pub after_authority : List ℕ
  pub questions : Composed (QuestionMay compresses) blank_header it.questions after_questions
  pub answers : Composed (RecordMay compresses) after_questions it.answers after_answers
  pub authority : Composed (RecordMay compresses) after_answers it.authority after_authority
  pub additional : Composed (RecordMay compresses) after_authority it.additional octets
  pub answers_begin : starts.answer ≡ length after_questions
  pub authority_begin : starts.authority ≡ length after_answers
  pub additional_begin : starts.additional ≡ length after_authority
  pub question_count : question_count counts ≡ length it.questions
  pub answer_count : answer_count counts ≡ length it.answers
  pub authority_count : authority_count counts ≡ length it.authority
  pub additional_count : additional_count counts ≡ length it.additional

-- The builder holds this, whatever its header and its limit are.
abbrev pub Holds : Bool → State → Content → Type 0
Holds compresses s it = HoldsIn compresses s.octets s.counts s.starts it
