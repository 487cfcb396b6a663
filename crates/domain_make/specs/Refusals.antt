-- Why a line isn't taken after what was said.
use Rattle.std.specs.Prelude.{◌≡◌, ◌≢◌, ◌⊎◌, ℕ, ◌+◌, ◌-◌, ◌<◌, Bool, List, ◌∷◌, length, slice_index, slice_range, drop, Option, IfSome}
use Rattle.domain_message.specs.Entries.{QuestionFields}
use Rattle.domain_message.specs.declared.section.Section.{Section}
use Rattle.domain_message.specs.declared.section.Section.TheVariants.{Answer, Authority, Additional}
use Rattle.domain_message_builder.specs.Contents.{Content, RecordHead, AsksIn, RecordsIn, Holds}
use Rattle.domain_message_builder.specs.Pushes.{record_count, section_count, later_count}
use Rattle.domain_message_builder.specs.State.{State}
use Rattle.domain_message_builder.specs.declared.error.PushError.{PushError}
use Rattle.domain_message_builder.specs.declared.error.PushError.TheVariants.{Append, Long, Count, Limit, Order}
use Rattle.domain_header.specs.Headers.{question_count}
use Rattle.domain_rdata.specs.ReadBack.{Exceeds}
use Rattle.domain_make.specs.Drafts.{Draft, IsBlankDraft, IsAsked, IsRemark, SaysThere, IsLine, LinesSay, TextSays, IsDraft, draft_rcode}
use Rattle.domain_make.specs.Entries.{first_column, IsQuestionWords, IsRecordWords}
use Rattle.domain_make.specs.Stops.{Tells, NoWords}
use Rattle.domain_make.specs.Faults.{NoQuestionWords, NoRecordWords}
use Rattle.domain_make.specs.Opts.{AreOptionsAhead, IsCutLine, IsEdnsLine, IsOptionLine, IsOtherStatus, edns_head}
use Rattle.domain_make.specs.Remarks.{IsTrimmed, IsCodesLine, AreCodes, IsFlagsLine, BeginsWithFlags, IsHeading, EndsInSection, BeginsAsOpt, settled}
use Rattle.domain_make.specs.Words.{WordAt, AreWords}
use Rattle.domain_make.specs.declared.error.Fault.{Fault}
use Rattle.domain_make.specs.declared.error.Fault.TheVariants as fault
use Rattle.domain_make.specs.declared.error.LineError.{LineError}
use Rattle.domain_make.specs.declared.opt.EdnsTold.{EdnsTold}
use Rattle.domain_make.specs.declared.remark.Flags.{Flags}
use Rattle.domain_make.specs.declared.remark.Stage.{Stage}
use Rattle.domain_make.specs.declared.remark.Stage.TheVariants.{Start, Codes, Told, Questions, Records, Options}

-- The line is none of a header and no heading.
pub record IsOther (text : List ℕ) : Type 0 where
  pub no_codes : (rest : List ℕ) → IsCodesLine text rest → ⊥
  pub no_flags : (rest : List ℕ) → IsFlagsLine text rest → ⊥
  pub no_heading : (stage : Stage) → IsHeading text stage → ⊥

-- The line says no OPT record in the additional section, and nothing of one right above.
pub record IsNoOpt (text : List ℕ) (stage : Stage) : Type 0 where
  pub no_edns : settled stage ≡ Records Additional → (told : EdnsTold) → IsEdnsLine text told → ⊥
  pub no_option : stage ≡ Options → (octets : List ℕ) → IsOptionLine text octets → ⊥
  pub no_cut : stage ≡ Options → (octets : List ℕ) → IsCutLine text octets → ⊥

-- A line that begins with a semicolon isn't taken at this stage, for this fault.
pub data NoRemark (text : List ℕ) (stage : Stage) (f : Fault) : Type 0 where
  late_codes : (rest : List ℕ) → IsCodesLine text rest → stage ≢ Start → f ≡ fault.LateHeader → NoRemark text stage f
  no_codes : (rest : List ℕ) → IsCodesLine text rest → stage ≡ Start → ((opcode rcode id : ℕ) → AreCodes rest opcode rcode id → ⊥) → f ≡ fault.Header → NoRemark text stage f
  late_flags : (rest : List ℕ) → IsFlagsLine text rest → ((stage ≡ Start) ⊎ (stage ≡ Codes) → ⊥) → f ≡ fault.LateHeader → NoRemark text stage f
  no_flags : (rest : List ℕ) → IsFlagsLine text rest → (stage ≡ Start) ⊎ (stage ≡ Codes) → ((flags : Flags) → BeginsWithFlags rest flags → ⊥) → f ≡ fault.Header → NoRemark text stage f
  no_heading : IsOther text → EndsInSection text → f ≡ fault.Heading → NoRemark text stage f
  of_opt : IsOther text → (EndsInSection text → ⊥) → BeginsAsOpt text → f ≡ fault.Opt → NoRemark text stage f

-- No heading of a section was said.
abbrev pub IsOutside : Stage → Type 0
IsOutside Start = Unit {0}
IsOutside Codes = Unit {0}
IsOutside Told = Unit {0}
IsOutside Questions = ⊥
IsOutside (Records section) = ⊥
IsOutside Options = ⊥

-- What the line says is nothing of a message.
pub data IsFaulty (line : List ℕ) (old : Draft) (f : Fault) (c : ℕ) : Type 0 where
  remark : (text : List ℕ) → IsRemark line old.stage → IsTrimmed line text → IsNoOpt text old.stage → NoRemark text old.stage f → c ≡ 1 → IsFaulty line old f c
  asked_words : old.stage ≡ Questions → IsAsked line → NoWords line 1 f c → IsFaulty line old f c
  asked : (words : List WordAt) → old.stage ≡ Questions → IsAsked line → AreWords line 1 words → NoQuestionWords words f c → IsFaulty line old f c
  no_words : slice_index line 0 ≢ 59 → NoWords line 0 f c → IsFaulty line old f c
  outside : (w : WordAt) (ws : List WordAt) → IsOutside old.stage → slice_index line 0 ≢ 59 → AreWords line 0 (w ∷ ws) → Tells fault.Outside w.column f c → IsFaulty line old f c
  question : (words : List WordAt) → old.stage ≡ Questions → slice_index line 0 ≢ 59 → AreWords line 0 words → 0 < length words → NoQuestionWords words f c → IsFaulty line old f c
  entry : (section : Section) (words : List WordAt) → settled old.stage ≡ Records section → slice_index line 0 ≢ 59 → AreWords line 0 words → 0 < length words → NoRecordWords line words f c → IsFaulty line old f c

-- how many records there are
abbrev pub records_in : Content → ℕ
records_in it = length it.answers + (length it.authority + length it.additional)

-- how many records this section has
abbrev pub records_of : Section → Content → ℕ
records_of Answer it = length it.answers
records_of Authority it = length it.authority
records_of Additional it = length it.additional

-- how many records the sections after it have
abbrev pub records_after : Section → Content → ℕ
records_after Answer it = length it.authority + length it.additional
records_after Authority it = length it.additional
records_after Additional it = 0

-- An entry isn't pushed for one of these reasons. Its data has more octets than its length can state (RFC 1035,
-- 3.2.1), or a later section was started. Or the section has as many entries as its count can state, or the message
-- would exceed its limit.
pub data NotPushed (size later count : ℕ) (Exceeded : Type 0) (f : Fault) : Type 0 where
  long : 65535 < size → f ≡ fault.Octets → NotPushed size later count Exceeded f
  order : 0 < later → f ≡ fault.Order → NotPushed size later count Exceeded f
  many : count ≡ 65535 → f ≡ fault.Count → NotPushed size later count Exceeded f
  limit : Exceeded → f ≡ fault.Limit → NotPushed size later count Exceeded f

-- A builder doesn't take the question.
abbrev pub QuestionStops : Bool → QuestionFields → State → Fault → Type 0
QuestionStops compresses q s f =
    NotPushed 0 (record_count s.counts) (question_count s.counts) (Exceeds (AsksIn compresses q s.octets) s.octets (s.limit - s.reserved)) f

-- A builder doesn't take the record.
abbrev pub RecordStops : Bool → Section → RecordHead → List ℕ → State → Fault → Type 0
RecordStops compresses section head octets s f =
    NotPushed (length octets) (later_count section s.counts) (section_count section s.counts) (Exceeds (RecordsIn compresses head (λ _ t. t ≡ octets) s.octets) s.octets (s.limit - s.reserved)) f

-- Octets that such an entry may be composed into, after a message of what was said, exceed 65,535.
abbrev pub TooLong : Bool → Content → (List ℕ → List ℕ → Type 0) → Type 0
TooLong compresses it May = (s : State) × Holds compresses s it × Exceeds (May s.octets) s.octets 65535

-- The question isn't pushed after what was said.
abbrev pub QuestionNotPushed : Bool → QuestionFields → Content → Fault → Type 0
QuestionNotPushed compresses q it f = NotPushed 0 (records_in it) (length it.questions) (TooLong compresses it (AsksIn compresses q)) f

-- The record of a section isn't.
abbrev pub RecordNotPushed : Bool → Section → RecordHead → List ℕ → Content → Fault → Type 0
RecordNotPushed compresses section head octets it f =
    NotPushed (length octets) (records_after section it) (records_of section it) (TooLong compresses it (RecordsIn compresses head (λ _ t. t ≡ octets))) f

-- Why a push was refused, as its error says.
abbrev pub TellsPush : {E : Type 0} → PushError E → Fault → Type 0
TellsPush (Append e) f = ⊥
TellsPush (Long e) f = f ≡ fault.Octets
TellsPush Count f = f ≡ fault.Count
TellsPush Limit f = f ≡ fault.Limit
TellsPush Order f = f ≡ fault.Order

-- The words are no question, or one that a builder doesn't take.
pub data NoPushedQuestion (compresses : Bool) (words : List WordAt) (s : State) (f : Fault) (c : ℕ) : Type 0 where
  no_question : NoQuestionWords words f c → NoPushedQuestion compresses words s f c
  stopped : (q : QuestionFields) → IsQuestionWords words q → QuestionStops compresses q s f → c ≡ first_column words → NoPushedQuestion compresses words s f c

-- The words are no record, or one that a builder doesn't take.
pub data NoPushedRecord (compresses : Bool) (section : Section) (line : List ℕ) (words : List WordAt) (s : State) (f : Fault) (c : ℕ) : Type 0 where
  no_record : NoRecordWords line words f c → NoPushedRecord compresses section line words s f c
  stopped : (head : RecordHead) (octets : List ℕ) → IsRecordWords line words head octets → RecordStops compresses section head octets s f → c ≡ first_column words → NoPushedRecord compresses section line words s f c

-- What the line says is an entry, which isn't pushed: its reasons, or an OPT record whose response code has other
-- lower bits than the header.
pub data EntryNotPushed (compresses : Bool) (line ahead : List ℕ) (old : Draft) (f : Fault) (c : ℕ) : Type 0 where
  opt : (text : List ℕ) (told : EdnsTold) (octets : List ℕ) → settled old.stage ≡ Records Additional → IsTrimmed line text → IsEdnsLine text told → (IsOtherStatus told (draft_rcode old) → ⊥)
      → AreOptionsAhead ahead octets → RecordNotPushed compresses Additional (edns_head told) octets old.content f → c ≡ 1 → EntryNotPushed compresses line ahead old f c
  status : (text : List ℕ) (told : EdnsTold) → settled old.stage ≡ Records Additional → IsTrimmed line text → IsEdnsLine text told → IsOtherStatus told (draft_rcode old) → f ≡ fault.Status → c ≡ 1
      → EntryNotPushed compresses line ahead old f c
  asked : (words : List WordAt) (q : QuestionFields) → old.stage ≡ Questions → IsAsked line → AreWords line 1 words → IsQuestionWords words q
      → QuestionNotPushed compresses q old.content f → c ≡ first_column words → EntryNotPushed compresses line ahead old f c
  question : (words : List WordAt) (q : QuestionFields) → old.stage ≡ Questions → slice_index line 0 ≢ 59 → AreWords line 0 words → IsQuestionWords words q
      → QuestionNotPushed compresses q old.content f → c ≡ first_column words → EntryNotPushed compresses line ahead old f c
  entry : (section : Section) (words : List WordAt) (head : RecordHead) (octets : List ℕ) → settled old.stage ≡ Records section → slice_index line 0 ≢ 59 → AreWords line 0 words
      → IsRecordWords line words head octets → RecordNotPushed compresses section head octets old.content f → c ≡ first_column words → EntryNotPushed compresses line ahead old f c

-- The line isn't taken after what was said: it says nothing of a message, with this fault in this column; or an entry,
-- which isn't pushed.
pub data IsRefused (compresses : Bool) (line ahead : List ℕ) (old : Draft) (f : Fault) (c : ℕ) : Type 0 where
  says_nothing : IsFaulty line old f c → ((new : Draft) → SaysThere line ahead old new → ⊥) → IsRefused compresses line ahead old f c
  no_room : EntryNotPushed compresses line ahead old f c → IsRefused compresses line ahead old f c

-- The line isn't taken after what this builder holds.
abbrev pub RefusesLine : Bool → List ℕ → List ℕ → Stage → State → Fault → ℕ → Type 0
RefusesLine compresses line ahead stage old f c = (d : Draft) → IsDraft compresses stage old d → IsRefused compresses line ahead d f c

-- The lines of a text before the one of this number, from 1 on, say something, and that one isn't taken after it.
pub record StopsAtLine (compresses : Bool) (text : List ℕ) (e : LineError) : Type 0 where
  pub lines : ℕ
  pub at : ℕ
  pub end : ℕ
  pub said : Draft
  pub before : LinesSay text lines at said
  pub more : at < length text
  pub next : e.line ≡ lines + 1
  pub is_line : IsLine text at end
  pub refused : IsRefused compresses (slice_range text at end) (drop (end + 1) text) said e.fault e.column

-- From a builder that holds nothing, the lines before this one of a text were taken, and this one wasn't.
abbrev pub StopsFrom : Bool → List ℕ → State → LineError → Type 0
StopsFrom compresses text old e = (d : Draft) → IsBlankDraft d → IsDraft compresses Start old d → StopsAtLine compresses text e

-- Each entry that the lines of a text say, one after the other, has room.
abbrev pub EntriesHaveRoom : Bool → List ℕ → Type 0
EntriesHaveRoom compresses text = (n at end : ℕ) (said : Draft) (f : Fault) (c : ℕ) → LinesSay text n at said → IsLine text at end → EntryNotPushed compresses (slice_range text at end) (drop (end + 1) text) said f c → ⊥

-- If all lines of the text say something, then an entry of them has no room.
abbrev pub NotMade : Bool → List ℕ → Type 0
NotMade compresses text = (said : Draft) → TextSays text said → EntriesHaveRoom compresses text → ⊥

-- A line of the text isn't taken after those before it, and why.
abbrev pub StopsSomewhere : Bool → List ℕ → Type 0
StopsSomewhere compresses text = (told : LineError) × StopsAtLine compresses text told

-- The error tells which line of the given text isn't taken, and why, where it is known what is given.
abbrev pub StopsAtGiven : Bool → Option (List ℕ) → LineError → Type 0
StopsAtGiven compresses given told = IfSome given (λ text. StopsAtLine compresses text told)

-- If all lines of the given text say something, then an entry of them has no room, where it is known what is given.
abbrev pub GivenNotMade : Bool → Option (List ℕ) → Type 0
GivenNotMade compresses given = IfSome given (NotMade compresses)
