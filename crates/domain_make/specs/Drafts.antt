-- What the lines of a text say, one after the other.
use Rattle.std.specs.Prelude.{◌≡◌, ◌⊎◌, drop, ◌≢◌, ℕ, suc, ◌+◌, ◌<◌, ◌≤◌, Bool, List, [], length, slice_index, slice_range}
use Rattle.domain_header.specs.Bits.{bits}
use Rattle.domain_header.specs.Headers.{header_id, header_high, header_low}
use Rattle.domain_header.specs.declared.flags.Header.{Header}
use Rattle.domain_message.specs.Entries.{QuestionFields}
use Rattle.domain_message_builder.specs.Contents.{Content, RecordHead, no_content, question_added, Holds}
use Rattle.domain_message_builder.specs.Pushes.{record_added}
use Rattle.domain_message_builder.specs.State.{State}
use Rattle.domain_message.specs.declared.section.Section.{Section}
use Rattle.domain_message.specs.declared.section.Section.TheVariants.{Additional}
use Rattle.domain_make.specs.Entries.{IsQuestionWords, IsRecordWords}
use Rattle.domain_make.specs.Opts.{AreOptionsAhead, IsCutLine, IsEdnsLine, IsOptionLine, IsOtherStatus, edns_head}
use Rattle.domain_make.specs.Remarks.{IsTrimmed, Remarks, settled}
use Rattle.domain_make.specs.Words.{WordAt, AreWords}
use Rattle.domain_make.specs.declared.opt.EdnsTold.{EdnsTold}
use Rattle.domain_make.specs.declared.remark.Stage.{Stage}
use Rattle.domain_make.specs.declared.remark.Stage.TheVariants.{Start, Questions, Records, Options}

-- what was said of a message: how far its lines have come, the header, and the entries of each section
pub record Draft : Type 0 where
  pub stage : Stage
  pub header : Header
  pub content : Content

-- Nothing was said: a header of zeros, and no entries.
pub record IsBlankDraft (d : Draft) : Type 0 where
  pub stage : d.stage ≡ Start
  pub id : header_id d.header ≡ 0
  pub high : header_high d.header ≡ 0
  pub low : header_low d.header ≡ 0
  pub content : d.content ≡ no_content

-- The line is a question as `dig` writes it: a semicolon, and after it neither another nor a space.
pub record IsAsked (line : List ℕ) : Type 0 where
  pub begins : slice_index line 0 ≡ 59
  pub longer : 1 < length line
  pub no_remark : slice_index line 1 ≢ 59
  pub no_space : slice_index line 1 ≢ 32

-- The line begins with a semicolon and is no such question where questions are.
pub record IsRemark (line : List ℕ) (stage : Stage) : Type 0 where
  pub begins : slice_index line 0 ≡ 59
  pub other : stage ≡ Questions → IsAsked line → ⊥

-- the response code of the header: the lower four bits of it (RFC 1035, 4.1.1)
abbrev pub draft_rcode : Draft → ℕ
draft_rcode d = bits 1 16 (header_low d.header)

-- the same draft, where no line of an OPT record was said last
abbrev pub settled_draft : Draft → Draft
settled_draft d = record d { stage = settled d.stage }

-- What a line adds to what was said: nothing, by a remark another stage and header, a question, a record of the
-- section. Below the first line of an OPT record, which says its options too, a line of them says nothing more.
pub data LineSays (line : List ℕ) (old new : Draft) : Type 0 where
  empty : slice_index line 0 ≢ 59 → AreWords line 0 [] → new ≡ settled_draft old → LineSays line old new
  remark : (text : List ℕ) → IsRemark line old.stage → IsTrimmed line text → Remarks text old.stage old.header new.stage new.header → new.content ≡ old.content → LineSays line old new
  asked : (words : List WordAt) (q : QuestionFields) → old.stage ≡ Questions → IsAsked line → AreWords line 1 words → IsQuestionWords words q
      → new ≡ record old { content = question_added old.content q } → LineSays line old new
  question : (words : List WordAt) (q : QuestionFields) → old.stage ≡ Questions → slice_index line 0 ≢ 59 → AreWords line 0 words → IsQuestionWords words q
      → new ≡ record old { content = question_added old.content q } → LineSays line old new
  option : (text octets : List ℕ) → old.stage ≡ Options → IsTrimmed line text → IsOptionLine text octets → new ≡ old → LineSays line old new
  cut : (text octets : List ℕ) → old.stage ≡ Options → IsTrimmed line text → IsCutLine text octets → new ≡ settled_draft old → LineSays line old new
  entry : (section : Section) (words : List WordAt) (head : RecordHead) (octets : List ℕ) → settled old.stage ≡ Records section → slice_index line 0 ≢ 59 → AreWords line 0 words → IsRecordWords line words head octets
      → new ≡ record old { stage = Records section; content = record_added section old.content (record { head = head; rdata = octets }) } → LineSays line old new

-- The line, and those of options right ahead, say an OPT record of the additional section.
pub record OptSays (line ahead : List ℕ) (old new : Draft) : Type 0 where
  pub text : List ℕ
  pub told : EdnsTold
  pub octets : List ℕ
  pub place : settled old.stage ≡ Records Additional
  pub cut : IsTrimmed line text
  pub is : IsEdnsLine text told
  pub code : IsOtherStatus told (draft_rcode old) → ⊥
  pub options : AreOptionsAhead ahead octets
  pub new_is : new ≡ record old { stage = Options; content = record_added Additional old.content (record { head = edns_head told; rdata = octets }) }

-- A line says something where these lines are ahead.
abbrev pub SaysThere : List ℕ → List ℕ → Draft → Draft → Type 0
SaysThere line ahead old new = LineSays line old new ⊎ OptSays line ahead old new

-- The line that begins at start ends before end: at a line feed, or with the text.
pub record IsLine (text : List ℕ) (start end : ℕ) : Type 0 where
  pub ahead : start ≤ end
  pub within : end ≤ length text
  pub inside : (k : ℕ) → start ≤ k → k < end → slice_index text k ≢ 10
  pub ends : (end ≡ length text) ⊎ (slice_index text end ≡ 10)

-- The first n lines of a text say this, and the next one begins at an offset.
pub data LinesSay (text : List ℕ) : (n at : ℕ) (said : Draft) → Type 0 where
  none : {said : Draft} → IsBlankDraft said → LinesSay text 0 0 said
  line : {n at end : ℕ} {old : Draft} (new : Draft) → LinesSay text n at old → IsLine text at end → SaysThere (slice_range text at end) (drop (end + 1) text) old new → LinesSay text (suc n) (end + 1) new

-- All lines of a text say this.
pub record TextSays (text : List ℕ) (said : Draft) : Type 0 where
  pub lines : ℕ
  pub at : ℕ
  pub to : LinesSay text lines at said
  pub whole : length text ≤ at

-- The builder holds what was said, and takes all octets that a message may have.
pub record IsDraft (compresses : Bool) (stage : Stage) (s : State) (d : Draft) : Type 0 where
  pub stage_is : d.stage ≡ stage
  pub header_is : d.header ≡ s.header
  pub limit_is : s.limit ≡ 65535
  pub reserved_is : s.reserved ≡ 0
  pub holds : Holds compresses s d.content

-- The line says something that this builder holds after what was said before, if that one does.
abbrev pub DraftsThere : Bool → List ℕ → List ℕ → Stage → State → Stage → State → Type 0
DraftsThere compresses text ahead stage old next new = (d : Draft) → IsDraft compresses stage old d → (e : Draft) × SaysThere text ahead d e × IsDraft compresses next new e

-- The same of a line that says no OPT record.
abbrev pub DraftsLine : Bool → List ℕ → Stage → State → Stage → State → Type 0
DraftsLine compresses text stage old next new = (d : Draft) → IsDraft compresses stage old d → (e : Draft) × LineSays text d e × IsDraft compresses next new e

-- A builder that holds nothing then holds what the lines of a text say.
abbrev pub DraftsLines : Bool → List ℕ → State → State → Type 0
DraftsLines compresses text old new = (d : Draft) → IsBlankDraft d → IsDraft compresses Start old d → (e : Draft) × TextSays text e × IsDraft compresses e.stage new e
