-- Messages that answer others.
use Rattle.std.specs.Prelude.{◌≡◌, ℕ, ◌==◌, ◌&&◌, Bool, true, false, IsTrue, List, length, slice_index}
use Rattle.std.specs.Cmp.Lexicographic.{pointwise, slice_cmp}
use Rattle.std.specs.Ordering.{on, nat_cmp, eq_by_cmp, eq_of_both}
use Rattle.octseq.specs.Parsing.{message, position}
use Rattle.octseq.specs.declared.parse.Parser.{Parser}
use Rattle.domain_label.specs.Wire.{wire}
use Rattle.domain_list.specs.Order.{same_name}
use Rattle.domain_header.specs.Bits.{bit, bits}
use Rattle.domain_header.specs.Numbers.{number16}
use Rattle.domain_message.specs.Entries.{QuestionFields, QuestionAt}
use Rattle.domain_message.specs.Sections.{Run}

-- Equal questions: their types and classes are equal, and their names ignoring ASCII case.
abbrev pub same_question : QuestionFields → QuestionFields → Bool
same_question =
    eq_of_both (on (λ q. q.name) same_name) (eq_of_both (on (λ q. q.rtype) ◌==◌)
    (on (λ q. q.class) ◌==◌))

-- Names have the same octets, in the case of letters, too.
abbrev pub same_spelling : List (List ℕ) → List (List ℕ) → Bool
same_spelling = on wire (eq_by_cmp (slice_cmp nat_cmp))

-- Equal questions: their names have the same octets, too, if `spelled`.
abbrev pub alike : (spelled : Bool) → QuestionFields → QuestionFields → Bool
alike false a b = same_question a b
alike true a b = same_spelling a.name b.name && same_question a b

-- As many questions are at p of m as are at q of o, n of them, and each is like the one with the same number. `like`
-- tells which are so.
pub record SameQuestions (like : QuestionFields → QuestionFields → Bool) (m : List ℕ) (p : ℕ) (o : List ℕ) (q n : ℕ) : Type 0 where
  pub ours : List QuestionFields
  pub theirs : List QuestionFields
  pub our_end : ℕ
  pub their_end : ℕ
  pub many : length ours ≡ n
  pub our_run : Run QuestionAt m p ours our_end
  pub their_run : Run QuestionAt o q theirs their_end
  pub same : IsTrue (pointwise like ours theirs)

-- Like questions are at p of m and at q of o, and end before e and f.
pub record SameNext (like : QuestionFields → QuestionFields → Bool) (m : List ℕ) (p e : ℕ) (o : List ℕ) (q f : ℕ) : Type 0 where
  pub our : QuestionFields
  pub their : QuestionFields
  pub our_at : QuestionAt m p our e
  pub their_at : QuestionAt o q their f
  pub same : IsTrue (like our their)

-- No like questions are at p of m and at q of o.
abbrev pub OtherNext : (QuestionFields → QuestionFields → Bool) → List ℕ → ℕ → List ℕ → ℕ → Type 0
OtherNext like m p o q = (e f : ℕ) → SameNext like m p e o q f → ⊥

-- Like questions are at two parsers, ours and theirs, and end where these are afterwards.
abbrev pub ReadsSame : (QuestionFields → QuestionFields → Bool) → Parser → Parser → Parser → Parser → Type 0
ReadsSame like ours our_end theirs their_end =
    SameNext like (message ours) (position ours) (position our_end) (message theirs)
    (position theirs) (position their_end)

-- No like questions are at the two parsers.
abbrev pub ReadsOther : (QuestionFields → QuestionFields → Bool) → Parser → Parser → Type 0
ReadsOther like ours theirs =
    OtherNext like (message ours) (position ours) (message theirs) (position theirs)

-- The message m answers the message o: it is a response with the same identifier and opcode, and the questions are
-- alike (RFC 1035, 4.1.1 and 7.3).
pub record Answers (like : QuestionFields → QuestionFields → Bool) (m o : List ℕ) : Type 0 where
  pub response : bit 128 (slice_index m 2) ≡ 1
  pub id : number16 m 0 ≡ number16 o 0
  pub opcode : bits 8 16 (slice_index m 2) ≡ bits 8 16 (slice_index o 2)
  pub count : number16 m 4 ≡ number16 o 4
  pub questions : SameQuestions like m 12 o 12 (number16 m 4)

-- It answers it, and the names of the questions are the same ignoring ASCII case.
abbrev pub IsAnswerTo : (m o : List ℕ) → Type 0
IsAnswerTo m o = Answers (alike false) m o

-- It answers it, and the names of the questions have the same octets.
abbrev pub IsSpelledAnswerTo : (m o : List ℕ) → Type 0
IsSpelledAnswerTo m o = Answers (alike true) m o
