-- What contracts say of a message: its questions, and where its sections begin.
use Rattle.std.specs.Prelude.{◌≡◌, ℕ, ◌<◌}
use Rattle.octseq.specs.declared.octets.Octets.{Ghosts}
use Rattle.domain_wire.specs.declared.error.ParseError.{ParseError}
use Rattle.domain_parsed.specs.declared.parsed.ParsedName.{ParsedName}
use Rattle.domain_header.specs.Numbers.{number16}
use Rattle.domain_message.specs.Entries.{QuestionAt, NoQuestion}
use Rattle.domain_message.specs.Models.{question_fields}
use Rattle.domain_message.specs.declared.question.Question.{Question}
use Rattle.domain_message.specs.Messages.{message_octets}
use Rattle.domain_message.specs.Sections.{Begins, QuestionsTo, AnswersTo, AuthorityTo, NoQuestions}
use Rattle.domain_message.specs.declared.message.Message.{Message}
use Rattle.domain_message.specs.declared.section.RecordSection.{RecordSection}
use Rattle.domain_message.specs.declared.section.Section.TheVariants.{Answer, Authority, Additional}

-- The header counts no question.
abbrev pub CountsNoQuestion : {O : Type 0} {g : Ghosts O} → Message O g → Type 0
CountsNoQuestion m = number16 (message_octets m) 4 ≡ 0

-- The header counts one question.
abbrev pub CountsOneQuestion : {O : Type 0} {g : Ghosts O} → Message O g → Type 0
CountsOneQuestion m = number16 (message_octets m) 4 ≡ 1

-- The header counts a question, or more.
abbrev pub CountsQuestions : {O : Type 0} {g : Ghosts O} → Message O g → Type 0
CountsQuestions m = 0 < number16 (message_octets m) 4

-- The question stands after the header.
abbrev pub StandsFirst : {O P : Type 0} {g : Ghosts O} {h : Ghosts P} → Message O g → Question (ParsedName P h) → Type 0
StandsFirst m q = (e : ℕ) × QuestionAt (message_octets m) 12 (question_fields q) e

-- No question stands after the header.
abbrev pub LacksFirstQuestion : {O : Type 0} {g : Ghosts O} → Message O g → Type 0
LacksFirstQuestion m = (why : ParseError) × NoQuestion (message_octets m) 12 why

-- A question that the header counts is missing.
abbrev pub HasMissingQuestion : {O : Type 0} {g : Ghosts O} → Message O g → Type 0
HasMissingQuestion m = (why : ParseError) × NoQuestions (message_octets m) why

-- All questions are there, and these are the answers, which begin at their end.
abbrev pub IsAnswerSection : {O : Type 0} {g : Ghosts O} → Message O g → RecordSection → Type 0
IsAnswerSection m it =
    (e : ℕ) × QuestionsTo (message_octets m) e × Begins (message_octets m) Answer e it

-- All entries to the end of the answers are there, and this is the authority section, which begins there.
abbrev pub IsAuthoritySection : {O : Type 0} {g : Ghosts O} → Message O g → RecordSection → Type 0
IsAuthoritySection m it =
    (e : ℕ) × AnswersTo (message_octets m) e × Begins (message_octets m) Authority e it

-- All entries to the end of the authority section are there, and this is the additional section, which begins there.
abbrev pub IsAdditionalSection : {O : Type 0} {g : Ghosts O} → Message O g → RecordSection → Type 0
IsAdditionalSection m it =
    (e : ℕ) × AuthorityTo (message_octets m) e × Begins (message_octets m) Additional e it
