-- What the parts of `canonical_name` say.
use Rattle.std.specs.Prelude.{◌≡◌, ◌<◌, ◌≤◌, ◌+◌, ◌⊎◌, ℕ, List, Option, Some, None}
use Rattle.octseq.specs.declared.octets.Octets.{Ghosts}
use Rattle.domain_parsed.specs.ParsedNames.{parsed_labels}
use Rattle.domain_parsed.specs.declared.parsed.ParsedName.{ParsedName}
use Rattle.domain_message.specs.Aliases.{IsAlias, FirstAlias, Leads, OfFirstQuestion, IsCanonicalWithin}
use Rattle.domain_message.specs.Entries.{QuestionFields, QuestionAt, RecordFields, RecordAt}
use Rattle.domain_message.specs.RecordModel.{record_fields}
use Rattle.domain_message.specs.declared.record.ParsedRecord.{ParsedRecord}
use Rattle.domain_message.specs.MessageParts.{CountsNoQuestion, HasMissingQuestion}
use Rattle.domain_message.specs.Messages.{message_octets}
use Rattle.domain_message.specs.Runs.{Given}
use Rattle.domain_message.specs.Sections.{Begins, QuestionsTo, records_message, records_offset, records_left, entries_left}
use Rattle.domain_message.specs.declared.message.Message.{Message}
use Rattle.domain_message.specs.declared.section.RecordSection.{RecordSection}
use Rattle.domain_message.specs.declared.section.Section.TheVariants.{Answer}

-- The section gives these records from here on.
abbrev pub GivenBy : RecordSection → List RecordFields → Type 0
GivenBy s rs =
    Given RecordAt (records_message s) (records_offset s) (entries_left (records_left s)) rs

-- The target of the first CNAME record of the name among the remaining records.
abbrev pub GivesAlias : RecordSection → List (List ℕ) → Option (List (List ℕ)) → Type 0
GivesAlias s name found = (rs : List RecordFields) → GivenBy s rs → FirstAlias name rs found

-- Fewer than n CNAME records lead from the name to one that none leads on from.
abbrev pub EndsBefore : RecordSection → ℕ → List (List ℕ) → List (List ℕ) → Type 0
EndsBefore s n from end =
    (rs : List RecordFields) → GivenBy s rs → (k : ℕ) × (k < n) × Leads rs from k end
    × FirstAlias end rs None

-- So many CNAME records lead on from the name.
abbrev pub LeadsOn : RecordSection → ℕ → List (List ℕ) → Type 0
LeadsOn s n from =
    (rs : List RecordFields) → GivenBy s rs → (name : List (List ℕ)) × Leads rs from n name

-- These are the answers, and this is the name of the first question.
pub record Asked (m : List ℕ) (answers : RecordSection) (name : List (List ℕ)) : Type 0 where
  pub asked : QuestionFields
  pub is : asked.name ≡ name
  pub question_end : ℕ
  pub question : QuestionAt m 12 asked question_end
  pub start : ℕ
  pub questions : QuestionsTo m start
  pub begins : Begins m Answer start answers

-- The record is a CNAME record of the name, and leads to the other.
abbrev pub LeadsTo : {O P : Type 0} {g : Ghosts O} {h : Ghosts P} → ParsedRecord → ParsedName O g → ParsedName P h → Type 0
LeadsTo it name target = IsAlias (record_fields it) (parsed_labels name) (parsed_labels target)

-- The record is no CNAME record of the name, or its data isn't one name.
abbrev pub LeadsNowhere : {O : Type 0} {g : Ghosts O} → ParsedRecord → ParsedName O g → Type 0
LeadsNowhere it name =
    (target : List (List ℕ)) → IsAlias (record_fields it) (parsed_labels name) target → ⊥

-- The first CNAME record of the name among the remaining records leads to the other.
abbrev pub FirstLeadsTo : {O P : Type 0} {g : Ghosts O} {h : Ghosts P} → RecordSection → ParsedName O g → ParsedName P h → Type 0
FirstLeadsTo s name target = GivesAlias s (parsed_labels name) (Some (parsed_labels target))

-- Fewer than n CNAME records lead from the name to the other, and none leads on from there.
abbrev pub ChainEndsAt : {O P : Type 0} {g : Ghosts O} {h : Ghosts P} → RecordSection → ℕ → ParsedName O g → ParsedName P h → Type 0
ChainEndsAt s n from end = EndsBefore s n (parsed_labels from) (parsed_labels end)

-- These are the answers of the message, and this is the name of its first question.
abbrev pub AskedIn : {O P : Type 0} {g : Ghosts O} {h : Ghosts P} → Message O g → RecordSection → ParsedName P h → Type 0
AskedIn m answers name = Asked (message_octets m) answers (parsed_labels name)

-- The canonical name of the first question is this one, and at most so many CNAME records lead to it.
abbrev pub HasCanonicalName : {O P : Type 0} {g : Ghosts O} {h : Ghosts P} → Message O g → ℕ → ParsedName P h → Type 0
HasCanonicalName m limit name =
    IsCanonicalWithin (message_octets m) limit (Some (parsed_labels name))

-- A question that the header counts is missing, or it counts none, or more CNAME records than these lead on.
abbrev pub HasNoCanonicalName : {O : Type 0} {g : Ghosts O} → Message O g → ℕ → Type 0
HasNoCanonicalName m limit =
    HasMissingQuestion m ⊎ (CountsNoQuestion m ⊎ IsCanonicalWithin (message_octets m) limit None)
