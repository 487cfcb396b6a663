-- Sections of a message (RFC 1035, 4.1).
use Rattle.std.specs.Prelude.{◌≡◌, ℕ, ◌+◌, ◌<◌, ◌⊎◌, List, [], ◌∷◌, length, Option, Some, None, Result, Ok, Err}
use Rattle.octseq.specs.declared.octets.Octets.{Ghosts}
use Rattle.octseq.specs.Parsing.{message, position}
use Rattle.domain_wire.specs.declared.error.ParseError.{ParseError}
use Rattle.domain_parsed.specs.declared.parsed.ParsedName.{ParsedName}
use Rattle.domain_message.specs.Entries.{QuestionFields, QuestionAt, NoQuestion, RecordFields, RecordAt, NoRecord}
use Rattle.domain_message.specs.Models.{question_fields}
use Rattle.domain_message.specs.RecordModel.{record_fields}
use Rattle.domain_header.specs.Numbers.{number16}
use Rattle.domain_message.specs.declared.question.Question.{Question}
use Rattle.domain_message.specs.declared.record.ParsedRecord.{ParsedRecord}
use Rattle.domain_message.specs.SectionOrder.{section_after}
use Rattle.domain_message.specs.declared.section.QuestionSection.{QuestionSection}
use Rattle.domain_message.specs.declared.section.RecordSection.{RecordSection}
use Rattle.domain_message.specs.declared.section.Section.{Section}
use Rattle.domain_message.specs.declared.section.Section.TheVariants.{Answer, Authority, Additional}

-- Entries are at p, one after the other, and end before e.
abbrev pub Run : {V : Type 0} → (List ℕ → ℕ → V → ℕ → Type 0) → List ℕ → ℕ → List V → ℕ → Type 0
Run At m p [] e = e ≡ p
Run At m p (x ∷ xs) e = (q : ℕ) × At m p x q × Run At m q xs e

-- Fewer than n entries are at p, one after the other: the next is missing, and why.
pub record Lacks {V : Type 0} (At : List ℕ → ℕ → V → ℕ → Type 0)
    (Fails : List ℕ → ℕ → ParseError → Type 0) (m : List ℕ) (p n : ℕ)
    (why : ParseError) : Type 0 where
  pub before : List V
  pub few : length before < n
  pub offset : ℕ
  pub run : Run At m p before offset
  pub missing : Fails m offset why

-- how many entries are left: none after an error
abbrev pub entries_left : Result ℕ ParseError → ℕ
entries_left (Ok n) = n
entries_left (Err e) = 0

-- A call at p, with c entries left, returned the entry there, or the error that it is missing, or nothing: after the
-- last one, or after an error. Then the offset is q, and d are left.
abbrev pub TakesEntry : {V W : Type 0} → (W → V) → (List ℕ → ℕ → V → ℕ → Type 0)
    → (List ℕ → ℕ → ParseError → Type 0) → List ℕ → ℕ → Result ℕ ParseError
    → Option (Result W ParseError) → ℕ → Result ℕ ParseError → Type 0
TakesEntry seen At Fails m p c None q d = (entries_left c ≡ 0) × (q ≡ p) × (d ≡ c)
TakesEntry seen At Fails m p c (Some (Ok x)) q d =
    (n : ℕ) × (c ≡ Ok (n + 1)) × (d ≡ Ok n) × At m p (seen x) q
TakesEntry seen At Fails m p c (Some (Err e)) q d =
    (n : ℕ) × (c ≡ Ok (n + 1)) × (d ≡ Err e) × (q ≡ p) × Fails m p e

-- the octets that an iterator over questions reads
abbrev pub questions_message : QuestionSection → List ℕ
questions_message s = message s.parser

-- the offset of the next question
abbrev pub questions_offset : QuestionSection → ℕ
questions_offset s = position s.parser

-- how many questions are left, or the error that ended them
abbrev pub questions_left : QuestionSection → Result ℕ ParseError
questions_left s = s.count

-- the octets that an iterator over records reads
abbrev pub records_message : RecordSection → List ℕ
records_message s = message s.parser

-- the offset of the next record
abbrev pub records_offset : RecordSection → ℕ
records_offset s = position s.parser

-- how many records are left, or the error that ended them
abbrev pub records_left : RecordSection → Result ℕ ParseError
records_left s = s.count

-- the section that the records are of
abbrev pub records_section : RecordSection → Section
records_section s = s.section

-- A call of `next` returned the next question, or the error that it is missing, or nothing: none was left.
abbrev pub GivesQuestion : {O : Type 0} {g : Ghosts O} → QuestionSection
    → Option (Result (Question (ParsedName O g)) ParseError) → QuestionSection → Type 0
GivesQuestion s r t = (questions_message t ≡ questions_message s)
    × TakesEntry question_fields QuestionAt NoQuestion (questions_message s) (questions_offset s)
    (questions_left s) r (questions_offset t) (questions_left t)

-- A call of `next` returned the next record, or the error that it is missing, or nothing: none was left.
abbrev pub GivesRecord : RecordSection → Option (Result ParsedRecord ParseError) → RecordSection
    → Type 0
GivesRecord s r t =
    (records_message t ≡ records_message s) × (records_section t ≡ records_section s)
    × TakesEntry record_fields RecordAt NoRecord (records_message s) (records_offset s)
    (records_left s) r (records_offset t) (records_left t)

-- how many records the header counts in a section
abbrev pub counted_records : List ℕ → Section → ℕ
counted_records m Answer = number16 m 6
counted_records m Authority = number16 m 8
counted_records m Additional = number16 m 10

-- The section begins at e, with all the records left that the header counts.
pub record Begins (m : List ℕ) (s : Section) (e : ℕ) (it : RecordSection) : Type 0 where
  pub message : records_message it ≡ m
  pub section : records_section it ≡ s
  pub offset : records_offset it ≡ e
  pub left : records_left it ≡ Ok (counted_records m s)

-- The entries that were left are at p, and the section begins after them.
abbrev pub BeginsAfter : {V : Type 0} → (List ℕ → ℕ → V → ℕ → Type 0) → List ℕ → ℕ
    → Result ℕ ParseError → Section → RecordSection → Type 0
BeginsAfter {V} At m p c s it =
    (xs : List V) × (e : ℕ) × (c ≡ Ok (length xs)) × Run At m p xs e × Begins m s e it

-- An entry that was left is missing, or was before, and why.
pub data Misses {V : Type 0} (At : List ℕ → ℕ → V → ℕ → Type 0)
    (Fails : List ℕ → ℕ → ParseError → Type 0) (m : List ℕ) (p : ℕ) (c : Result ℕ ParseError)
    (why : ParseError) : Type 0 where
  before : c ≡ Err why → Misses At Fails m p c why
  now : (n : ℕ) → c ≡ Ok n → Lacks At Fails m p n why → Misses At Fails m p c why

-- The questions that were left are there, and the answer section begins after them.
abbrev pub BeginsAfterQuestions : QuestionSection → RecordSection → Type 0
BeginsAfterQuestions s it =
    BeginsAfter QuestionAt (questions_message s) (questions_offset s) (questions_left s) Answer it

-- A question that was left is missing, or was before, and why.
abbrev pub MissesQuestion : QuestionSection → ParseError → Type 0
MissesQuestion s why =
    Misses QuestionAt NoQuestion (questions_message s) (questions_offset s) (questions_left s) why

-- No section follows that of these records.
abbrev pub IsLastSection : RecordSection → Type 0
IsLastSection s = section_after (records_section s) ≡ None

-- The records that were left are there, and the section that follows begins after them.
abbrev pub BeginsAfterRecords : RecordSection → RecordSection → Type 0
BeginsAfterRecords s it =
    (next : Section) × (section_after (records_section s) ≡ Some next)
    × BeginsAfter RecordAt (records_message s) (records_offset s) (records_left s) next it

-- A record that was left is missing, or was before, and why.
abbrev pub MissesRecord : RecordSection → ParseError → Type 0
MissesRecord s why =
    Misses RecordAt NoRecord (records_message s) (records_offset s) (records_left s) why

-- All questions that the header counts are there, and end before e.
abbrev pub QuestionsTo : List ℕ → ℕ → Type 0
QuestionsTo m e = (qs : List QuestionFields) × (length qs ≡ number16 m 4) × Run QuestionAt m 12 qs e

-- All records that the header counts in a section are at p, and end before e.
abbrev pub RecordsTo : List ℕ → Section → ℕ → ℕ → Type 0
RecordsTo m s p e = (rs : List RecordFields) × (length rs ≡ counted_records m s) × Run RecordAt m p rs e

-- All entries to the end of the answers are there, and end before e.
abbrev pub AnswersTo : List ℕ → ℕ → Type 0
AnswersTo m e = (p : ℕ) × QuestionsTo m p × RecordsTo m Answer p e

-- All entries to the end of the authority section are there, and end before e.
abbrev pub AuthorityTo : List ℕ → ℕ → Type 0
AuthorityTo m e = (p : ℕ) × AnswersTo m p × RecordsTo m Authority p e

-- An entry that the header counts is missing, and why.
abbrev pub NoQuestions : List ℕ → ParseError → Type 0
NoQuestions m why = Misses QuestionAt NoQuestion m 12 (Ok (number16 m 4)) why

abbrev pub NoRecords : List ℕ → Section → ℕ → ParseError → Type 0
NoRecords m s p why = Misses RecordAt NoRecord m p (Ok (counted_records m s)) why

-- An entry to the end of the answers is missing, and why.
abbrev pub NoAnswers : List ℕ → ParseError → Type 0
NoAnswers m why = NoQuestions m why ⊎ ((e : ℕ) × QuestionsTo m e × NoRecords m Answer e why)

-- An entry to the end of the authority section is missing, and why.
abbrev pub NoAuthority : List ℕ → ParseError → Type 0
NoAuthority m why = NoAnswers m why ⊎ ((e : ℕ) × AnswersTo m e × NoRecords m Authority e why)
