-- What contracts say of a builder that takes lines. Its type names what the traits of its target tell, and these words
-- take it from there: `g` is what `Composer` tells, and `h` to `l` are as in `Builders` of `domain_message_builder`.
use Rattle.std.specs.Prelude.{◌≡◌, ◌⊎◌, ℕ, List}
use Rattle.octseq.specs.declared.octets.Octets.{Ghosts}
use Rattle.domain_name.specs.Names.{name_labels}
use Rattle.domain_name.specs.declared.absolute.Name.{Name}
use Rattle.domain_rdata.specs.Unknown.{data_octets, data_type}
use Rattle.domain_rdata.specs.declared.unknown.UnknownRecordData.{UnknownRecordData}
use Rattle.domain_message.specs.Entries.{QuestionFields}
use Rattle.domain_message.specs.RecordParts.{data_of}
use Rattle.domain_message.specs.declared.resource_record.Record.{Record}
use Rattle.domain_message.specs.declared.section.Section.{Section}
use Rattle.domain_message.specs.declared.section.Section.TheVariants.{Additional}
use Rattle.domain_message_builder.specs.Builders.{state}
use Rattle.domain_message_builder.specs.Contents.{RecordHead}
use Rattle.domain_message_builder.specs.Pushes.{headed, PushesQuestion, PushesRecord}
use Rattle.domain_message_builder.specs.declared.builder.MessageBuilder.{MessageBuilder}
use Rattle.domain_header.specs.Bits.{bits}
use Rattle.domain_header.specs.Headers.{header_low}
use Rattle.domain_make.specs.Opts.{AreOptionsAhead, IsCutLine, IsEdnsLine, IsOptionLine, IsOtherStatus, edns_head}
use Rattle.domain_make.specs.Remarks.{IsTrimmed, settled}
use Rattle.domain_make.specs.Stops.{IfFault}
use Rattle.domain_make.specs.Words.{WordAt}
use Rattle.domain_make.specs.declared.error.Fault.TheVariants as fault
use Rattle.domain_make.specs.declared.error.Stop.{Stop}
use Rattle.domain_make.specs.declared.opt.EdnsTold.{EdnsTold}
use Rattle.domain_make.specs.Drafts.{DraftsLine, DraftsThere, DraftsLines}
use Rattle.domain_make.specs.Entries.{IsQuestionWords, IsRecordWords}
use Rattle.domain_make.specs.Made.{IfLine}
use Rattle.domain_make.specs.Refusals.{NoPushedQuestion, NoPushedRecord, RecordStops, RefusesLine, StopsFrom}
use Rattle.domain_make.specs.declared.error.MakeError.{MakeError}
use Rattle.domain_make.specs.declared.remark.Stage.{Stage}
use Rattle.domain_make.specs.declared.remark.Stage.TheVariants.{Records, Options}

-- The words are this record: its owner, its TTL, its class, its type and its data.
abbrev pub AreWordsOf : {A B : Type 0} {a : Ghosts A} {b : Ghosts B}
    → List ℕ → List WordAt → Record (Name A a) (UnknownRecordData B b) → Type 0
AreWordsOf line words it = IsRecordWords line words (headed name_labels data_type it) (data_octets (data_of it))

-- The question that the words are was pushed.
abbrev pub AddsQuestionOf : {T E : Type 0} {g : _} {h : _} {i : _} {j : _} {k : _} {l : _}
    → List WordAt → MessageBuilder T E g h i j k l → MessageBuilder T E g h i j k l → Type 0
AddsQuestionOf {g = g} words old new =
    (q : QuestionFields) × IsQuestionWords words q × PushesQuestion g.compresses q (state old) (state new)

-- Why no question that the words are was pushed, if it isn't memory that lacks.
abbrev pub NoQuestionAdded : {T E : Type 0} {g : _} {h : _} {i : _} {j : _} {k : _} {l : _}
    → List WordAt → MessageBuilder T E g h i j k l → Stop → Type 0
NoQuestionAdded {g = g} words b e = IfFault e (NoPushedQuestion g.compresses words (state b))

-- The record that the words are was pushed into the section.
abbrev pub AddsRecordOf : {T E : Type 0} {g : _} {h : _} {i : _} {j : _} {k : _} {l : _}
    → Section → List ℕ → List WordAt → MessageBuilder T E g h i j k l → MessageBuilder T E g h i j k l → Type 0
AddsRecordOf {g = g} section line words old new =
    (head : RecordHead) × (octets : List ℕ) × IsRecordWords line words head octets × PushesRecord g.compresses section head (λ _ s. s ≡ octets) (state old) (state new)

-- Why no record that the words are was pushed, if it isn't memory that lacks.
abbrev pub NoRecordAdded : {T E : Type 0} {g : _} {h : _} {i : _} {j : _} {k : _} {l : _}
    → Section → List ℕ → List WordAt → MessageBuilder T E g h i j k l → Stop → Type 0
NoRecordAdded {g = g} section line words b e = IfFault e (NoPushedRecord g.compresses section line words (state b))

-- The line says something that the builder holds then after what was said before, if it held that.
abbrev pub TakesLine : {T E : Type 0} {g : _} {h : _} {i : _} {j : _} {k : _} {l : _}
    → List ℕ → Stage → MessageBuilder T E g h i j k l → Stage → MessageBuilder T E g h i j k l → Type 0
TakesLine {g = g} line stage old next new = DraftsLine g.compresses line stage (state old) next (state new)

-- The same of a line below which these lines are, which may say options of an OPT record.
abbrev pub TakesThere : {T E : Type 0} {g : _} {h : _} {i : _} {j : _} {k : _} {l : _}
    → List ℕ → List ℕ → Stage → MessageBuilder T E g h i j k l → Stage → MessageBuilder T E g h i j k l → Type 0
TakesThere {g = g} line ahead stage old next new = DraftsThere g.compresses line ahead stage (state old) next (state new)

-- The same of a line that leaves the stage as it is.
abbrev pub TakesEntryLine : {T E : Type 0} {g : _} {h : _} {i : _} {j : _} {k : _} {l : _}
    → List ℕ → Stage → MessageBuilder T E g h i j k l → MessageBuilder T E g h i j k l → Type 0
TakesEntryLine line stage old new = TakesLine line stage old stage new

-- The line says a record of the section, where records of it are.
abbrev pub TakesRecordLine : {T E : Type 0} {g : _} {h : _} {i : _} {j : _} {k : _} {l : _}
    → List ℕ → Section → MessageBuilder T E g h i j k l → MessageBuilder T E g h i j k l → Type 0
TakesRecordLine line section old new = (stage : Stage) → settled stage ≡ Records section → TakesLine line stage old (Records section) new

-- Why the line isn't taken after what the builder holds, if it isn't memory that lacks.
abbrev pub LineNotTaken : {T E : Type 0} {g : _} {h : _} {i : _} {j : _} {k : _} {l : _}
    → List ℕ → Stage → MessageBuilder T E g h i j k l → Stop → Type 0
LineNotTaken {g = g} line stage b e = IfFault e (λ f c. (ahead : List ℕ) → RefusesLine g.compresses line ahead stage (state b) f c)

-- The same of a line where records of this section are.
abbrev pub RecordNotTaken : {T E : Type 0} {g : _} {h : _} {i : _} {j : _} {k : _} {l : _}
    → List ℕ → Section → MessageBuilder T E g h i j k l → Stop → Type 0
RecordNotTaken line section b e = (stage : Stage) → settled stage ≡ Records section → LineNotTaken line stage b e

-- The same where these lines are below it.
abbrev pub NotTakenThere : {T E : Type 0} {g : _} {h : _} {i : _} {j : _} {k : _} {l : _}
    → List ℕ → List ℕ → Stage → MessageBuilder T E g h i j k l → Stop → Type 0
NotTakenThere {g = g} line ahead stage b e = IfFault e (RefusesLine g.compresses line ahead stage (state b))

-- The OPT record of this head and these options was pushed into the additional section.
abbrev pub AddsOptOf : {T E : Type 0} {g : _} {h : _} {i : _} {j : _} {k : _} {l : _}
    → RecordHead → List ℕ → MessageBuilder T E g h i j k l → MessageBuilder T E g h i j k l → Type 0
AddsOptOf {g = g} head octets old new = PushesRecord g.compresses Additional head (λ _ s. s ≡ octets) (state old) (state new)

-- Why it wasn't, if it isn't memory that lacks.
abbrev pub NoOptAdded : {T E : Type 0} {g : _} {h : _} {i : _} {j : _} {k : _} {l : _}
    → RecordHead → List ℕ → MessageBuilder T E g h i j k l → Stop → Type 0
NoOptAdded {g = g} head octets b e = IfFault e (λ f c. RecordStops g.compresses Additional head octets (state b) f × (c ≡ 1))

-- the response code of the builder's header
abbrev pub builder_rcode : {T E : Type 0} {g : _} {h : _} {i : _} {j : _} {k : _} {l : _} → MessageBuilder T E g h i j k l → ℕ
builder_rcode b = bits 1 16 (header_low (state b).header)

-- Why no OPT record was taken whose first line tells this, if it isn't memory that lacks: its response code has other
-- lower bits than the header, or it isn't pushed.
abbrev pub OptNotTaken : {T E : Type 0} {g : _} {h : _} {i : _} {j : _} {k : _} {l : _}
    → EdnsTold → List ℕ → MessageBuilder T E g h i j k l → Stop → Type 0
OptNotTaken {g = g} told ahead b e = IfFault e (λ f c. (c ≡ 1) × ((IsOtherStatus told (builder_rcode b) × (f ≡ fault.Status))
    ⊎ ((octets : List ℕ) × (IsOtherStatus told (builder_rcode b) → ⊥) × AreOptionsAhead ahead octets × RecordStops g.compresses Additional (edns_head told) octets (state b) f)))

-- A line right below those of an OPT record is one of them, and leads to this stage.
pub data LeadsBelow (line : List ℕ) : (next : Stage) → Type 0 where
  option : (text octets : List ℕ) → IsTrimmed line text → IsOptionLine text octets → LeadsBelow line Options
  cut : (text octets : List ℕ) → IsTrimmed line text → IsCutLine text octets → LeadsBelow line (Records Additional)

-- It is none of them.
abbrev pub IsNoOptionLine : List ℕ → Type 0
IsNoOptionLine line = (text octets : List ℕ) → IsTrimmed line text → IsOptionLine text octets ⊎ IsCutLine text octets → ⊥

-- The line is no first line of an OPT record.
abbrev pub IsNoEdnsLine : List ℕ → Type 0
IsNoEdnsLine line = (text : List ℕ) → IsTrimmed line text → (told : EdnsTold) → IsEdnsLine text told → ⊥

-- A builder that held nothing holds what the lines of a text say.
abbrev pub TakesLines : {T E : Type 0} {g : _} {h : _} {i : _} {j : _} {k : _} {l : _}
    → List ℕ → MessageBuilder T E g h i j k l → MessageBuilder T E g h i j k l → Type 0
TakesLines {g = g} text old new = DraftsLines g.compresses text (state old) (state new)

-- Which line of a text isn't taken by a builder that holds nothing, and why, if the error is of a line.
abbrev pub LinesNotTaken : {T E : Type 0} {g : _} {h : _} {i : _} {j : _} {k : _} {l : _}
    → List ℕ → MessageBuilder T E g h i j k l → MakeError → Type 0
LinesNotTaken {g = g} text b e = IfLine e (StopsFrom g.compresses text (state b))
