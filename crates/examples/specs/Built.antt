-- Messages that are built.
use Rattle.std.specs.Prelude.{◌≡◌, ℕ, ◌<◌, ◌≤◌, Bool, List, [], ◌∷◌, ◌++◌, length, drop}
use Rattle.domain_header.specs.declared.flags.Header.{Header}
use Rattle.domain_message.specs.Entries.{QuestionFields}
use Rattle.domain_rdata.specs.ReadBack.{Exceeds}
use Rattle.domain_message_builder.specs.Contents.{blank_header, Content, RecordHead, PushedRecord, AsksIn, RecordsIn}
use Rattle.domain_message_builder.specs.Cuts.{opt_record, HasNoRoomFor}
use Rattle.domain_message_builder.specs.Opt.{Opt, bare_opt, with_size}
use Rattle.domain_message_builder.specs.Reading.{IsMessageOf}
use Rattle.domain_message_builder.specs.Refusals.{RecordTooBig, DataTooLong}

-- The message has this header and this question, and nothing else.
abbrev pub IsQuery : Header → QuestionFields → List ℕ → Type 0
IsQuery header q m = IsMessageOf header (record { questions = q ∷ []; answers = []; authority = []; additional = [] }) m

-- an OPT record that states how many octets of a message over UDP its sender takes, and nothing else
abbrev pub sized_opt : ℕ → Opt
sized_opt size = with_size size (bare_opt [])

-- The message has this header, this question and an OPT record of this size, and nothing else (RFC 6891, 6.1.1).
abbrev pub IsSizedQuery : Header → QuestionFields → ℕ → List ℕ → Type 0
IsSizedQuery header q size m = IsMessageOf header (record { questions = q ∷ []; answers = []; authority = []; additional = opt_record (sized_opt size) ∷ [] }) m

-- The message has this header, this question and an answer with this head, and nothing else. After the header are the
-- octets that each may be composed into after what is before it.
pub record IsAnswer (compresses : Bool) (header : Header) (q : QuestionFields) (head : RecordHead) (May : List ℕ → List ℕ → Type 0) (m : List ℕ) : Type 0 where
  pub question : List ℕ
  pub is_question : AsksIn compresses q blank_header question
  pub answer : List ℕ
  pub is_answer : RecordsIn compresses head May (blank_header ++ question) answer
  pub message : IsMessageOf header (record { questions = q ∷ []; answers = record { head = head; rdata = is_answer.rdata } ∷ []; authority = []; additional = [] }) m
  pub octets : drop 12 m ≡ question ++ answer
  pub short : length m ≤ 512

-- Why a target of these octets and this capacity has no message with a question: it isn't empty, it has no room for a
-- header, or octets that may be composed for the question after a header exceed its capacity, or the limit.
pub data NotAsked (compresses : Bool) (q : QuestionFields) (octets : List ℕ) (capacity limit : ℕ) : Type 0 where
  not_empty : 0 < length octets → NotAsked compresses q octets capacity limit
  no_header : capacity < 12 → NotAsked compresses q octets capacity limit
  no_room : Exceeds (AsksIn compresses q blank_header) blank_header capacity → NotAsked compresses q octets capacity limit
  over_limit : Exceeds (AsksIn compresses q blank_header) blank_header limit → NotAsked compresses q octets capacity limit

-- Why it has none with an OPT record after the question.
pub data NotSized (compresses : Bool) (q : QuestionFields) (size : ℕ) (octets : List ℕ) (capacity limit : ℕ) : Type 0 where
  no_question : NotAsked compresses q octets capacity limit → NotSized compresses q size octets capacity limit
  no_opt : (s : List ℕ) → AsksIn compresses q blank_header s → HasNoRoomFor (sized_opt size) (length (blank_header ++ s)) capacity limit → NotSized compresses q size octets capacity limit

-- Why it has none with an answer after the question.
pub data NotAnswered (compresses : Bool) (q : QuestionFields) (head : RecordHead) (May : List ℕ → List ℕ → Type 0) (octets : List ℕ) (capacity limit : ℕ) : Type 0 where
  not_asked : NotAsked compresses q octets capacity limit → NotAnswered compresses q head May octets capacity limit
  too_big : (s : List ℕ) → AsksIn compresses q blank_header s → RecordTooBig compresses head May (blank_header ++ s) capacity → NotAnswered compresses q head May octets capacity limit
  too_long : (s : List ℕ) → AsksIn compresses q blank_header s → DataTooLong compresses head May (blank_header ++ s) → NotAnswered compresses q head May octets capacity limit
  too_much : (s : List ℕ) → AsksIn compresses q blank_header s → Exceeds (RecordsIn compresses head May (blank_header ++ s)) (blank_header ++ s) limit → NotAnswered compresses q head May octets capacity limit
