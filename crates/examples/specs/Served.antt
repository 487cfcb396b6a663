-- Answers to queries.
use Rattle.std.specs.Prelude.{◌≡◌, ℕ, ◌<◌, ◌⊎◌, Bool, List, [], ◌∷◌, ◌++◌, length, drop, slice_index}
use Rattle.domain_header.specs.Bits.{bit}
use Rattle.domain_header.specs.Headers.{SetsHigh}
use Rattle.domain_header.specs.declared.flags.Header.{Header}
use Rattle.domain_message.specs.Entries.{QuestionFields}
use Rattle.domain_rdata.specs.ReadBack.{Exceeds}
use Rattle.domain_message_builder.specs.Answers.{AnswersHeaderOf, HasNoQuestion, BeginsWithQuestion}
use Rattle.domain_message_builder.specs.Contents.{blank_header, AsksIn, RecordsIn, Content, RecordHead, PushedRecord}
use Rattle.domain_message_builder.specs.Cuts.{opt_record, HasNoRoomFor}
use Rattle.domain_message_builder.specs.Opt.{Opt}
use Rattle.domain_message_builder.specs.Reading.{IsMessageOf}
use Rattle.domain_message_builder.specs.Refusals.{RecordTooBig, DataTooLong}
use Rattle.examples.specs.Built.{NotAsked}

-- What an answer to a query repeats of it: the first question, or none where that is missing.
abbrev pub RepeatsFirstQuestion : List ℕ → List QuestionFields → Type 0
RepeatsFirstQuestion query [] = HasNoQuestion query
RepeatsFirstQuestion query (q ∷ []) = BeginsWithQuestion query q
RepeatsFirstQuestion query (q ∷ r ∷ qs) = ⊥

-- So it does, in the octets s after a blank header.
abbrev pub RepeatsIn : Bool → List ℕ → List QuestionFields → List ℕ → Type 0
RepeatsIn compresses query [] s = HasNoQuestion query × (s ≡ [])
RepeatsIn compresses query (q ∷ []) s = BeginsWithQuestion query q × AsksIn compresses q blank_header s
RepeatsIn compresses query (q ∷ r ∷ qs) s = ⊥

-- the records of a section each
abbrev pub with_sections : List QuestionFields → List PushedRecord → List PushedRecord → List PushedRecord → Content
with_sections qs answers authority additional = record { questions = qs; answers = answers; authority = authority; additional = additional }

-- The bit AA is set: the answer is from the zone itself (RFC 1035, 4.1.1).
abbrev pub HasAa : List ℕ → Type 0
HasAa m = bit 4 (slice_index m 2) ≡ 1

-- The message refers to servers: it answers the query with one record in the authority section and one in the
-- additional section, and nothing else (RFC 1034, 4.3.2). After the header are the octets that each may be composed
-- into after what is before it.
pub record IsReferral (compresses : Bool) (query : List ℕ) (servers : RecordHead) (Servers : List ℕ → List ℕ → Type 0) (glue : RecordHead) (Glue : List ℕ → List ℕ → Type 0) (m : List ℕ) : Type 0 where
  pub header : Header
  pub answers : AnswersHeaderOf query 0 header
  pub questions : List QuestionFields
  pub asked : List ℕ
  pub repeats : RepeatsIn compresses query questions asked
  pub server : List ℕ
  pub is_server : RecordsIn compresses servers Servers (blank_header ++ asked) server
  pub address : List ℕ
  pub is_glue : RecordsIn compresses glue Glue ((blank_header ++ asked) ++ server) address
  pub message : IsMessageOf header (with_sections questions [] (record { head = servers; rdata = is_server.rdata } ∷ []) (record { head = glue; rdata = is_glue.rdata } ∷ [])) m
  pub octets : drop 12 m ≡ (asked ++ server) ++ address

-- The message answers the query with a record of the zone, and names a server of the zone in the authority section
-- (RFC 1034, 4.3.2). Its header is that of an answer, except that AA is set.
pub record IsAuthoritative (compresses : Bool) (query : List ℕ) (head : RecordHead) (May : List ℕ → List ℕ → Type 0) (servers : RecordHead) (Servers : List ℕ → List ℕ → Type 0) (m : List ℕ) : Type 0 where
  pub plain : Header
  pub answers : AnswersHeaderOf query 0 plain
  pub header : Header
  pub authoritative : SetsHigh 4 2 1 plain header
  pub questions : List QuestionFields
  pub asked : List ℕ
  pub repeats : RepeatsIn compresses query questions asked
  pub answer : List ℕ
  pub is_answer : RecordsIn compresses head May (blank_header ++ asked) answer
  pub server : List ℕ
  pub is_server : RecordsIn compresses servers Servers ((blank_header ++ asked) ++ answer) server
  pub message : IsMessageOf header (with_sections questions (record { head = head; rdata = is_answer.rdata } ∷ []) (record { head = servers; rdata = is_server.rdata } ∷ []) []) m
  pub octets : drop 12 m ≡ (asked ++ answer) ++ server

-- An answer to the query has these questions: its first one, or none where that can't be pushed, into a target of this
-- capacity.
pub data RepeatsIfRoom (compresses : Bool) (query octets : List ℕ) (capacity limit : ℕ) (qs : List QuestionFields) : Type 0 where
  all : RepeatsFirstQuestion query qs → RepeatsIfRoom compresses query octets capacity limit qs
  bare : (q : QuestionFields) → BeginsWithQuestion query q → NotAsked compresses q octets capacity limit → qs ≡ [] → RepeatsIfRoom compresses query octets capacity limit qs

-- The message tells an error, and has no record (RFC 1035, 4.1.1).
pub record IsErrorAnswer (compresses : Bool) (query octets : List ℕ) (capacity rcode : ℕ) (m : List ℕ) : Type 0 where
  pub header : Header
  pub answers : AnswersHeaderOf query rcode header
  pub questions : List QuestionFields
  pub repeats : RepeatsIfRoom compresses query octets capacity 65535 questions
  pub message : IsMessageOf header (with_sections questions [] [] []) m

-- After the octets t a record has no room: octets that it may be composed into exceed the capacity or the limit.
abbrev pub HasNoRoom : Bool → RecordHead → (List ℕ → List ℕ → Type 0) → List ℕ → ℕ → ℕ → Type 0
HasNoRoom compresses head May t capacity limit =
    RecordTooBig compresses head May t capacity ⊎ Exceeds (RecordsIn compresses head May t) t limit

-- It isn't appended: it has no room, or its data has more octets than a length tells.
abbrev pub NotAppended : Bool → RecordHead → (List ℕ → List ℕ → Type 0) → List ℕ → ℕ → ℕ → Type 0
NotAppended compresses head May t capacity limit =
    HasNoRoom compresses head May t capacity limit ⊎ DataTooLong compresses head May t

-- Why a target of these octets and this capacity has no answer to the query: it isn't empty, it has no room for a
-- header, or the question that is repeated has none.
pub data CannotAnswer (compresses : Bool) (query octets : List ℕ) (capacity limit : ℕ) : Type 0 where
  not_empty : 0 < length octets → CannotAnswer compresses query octets capacity limit
  no_header : capacity < 12 → CannotAnswer compresses query octets capacity limit
  no_question : (q : QuestionFields) → BeginsWithQuestion query q → NotAsked compresses q octets capacity limit → CannotAnswer compresses query octets capacity limit

-- Why it has none with these two records, one after the other.
pub data LacksRecord (compresses : Bool) (query : List ℕ) (first : RecordHead) (First : List ℕ → List ℕ → Type 0) (second : RecordHead) (Second : List ℕ → List ℕ → Type 0) (octets : List ℕ) (capacity limit : ℕ) : Type 0 where
  not_begun : CannotAnswer compresses query octets capacity limit → LacksRecord compresses query first First second Second octets capacity limit
  no_first : (qs : List QuestionFields) (asked : List ℕ) → RepeatsIn compresses query qs asked
      → NotAppended compresses first First (blank_header ++ asked) capacity limit → LacksRecord compresses query first First second Second octets capacity limit
  no_second : (qs : List QuestionFields) (asked s : List ℕ) → RepeatsIn compresses query qs asked → RecordsIn compresses first First (blank_header ++ asked) s
      → NotAppended compresses second Second ((blank_header ++ asked) ++ s) capacity limit → LacksRecord compresses query first First second Second octets capacity limit

-- Why an answer is cut: after the question the record has no room, or the OPT record has none after both.
pub data MustBeCut (compresses : Bool) (head : RecordHead) (May : List ℕ → List ℕ → Type 0) (opt : Opt) (asked : List ℕ) (capacity limit : ℕ) : Type 0 where
  no_record : HasNoRoom compresses head May (blank_header ++ asked) capacity limit → MustBeCut compresses head May opt asked capacity limit
  no_opt : (s : List ℕ) → RecordsIn compresses head May (blank_header ++ asked) s
      → HasNoRoomFor opt (length ((blank_header ++ asked) ++ s)) capacity limit → MustBeCut compresses head May opt asked capacity limit

-- Either the message answers the query with a record and an OPT record, and TC is clear. Or it must be cut: TC is set,
-- and only the OPT record follows the question (RFC 2181, 9; RFC 6891, 7).
pub data IsWholeOrCut (compresses : Bool) (query : List ℕ) (head : RecordHead) (May : List ℕ → List ℕ → Type 0) (opt : Opt) (capacity limit : ℕ) (m : List ℕ) : Type 0 where
  whole : (header : Header) → AnswersHeaderOf query 0 header → (qs : List QuestionFields) (asked s : List ℕ) → RepeatsIn compresses query qs asked
      → (it : RecordsIn compresses head May (blank_header ++ asked) s)
      → IsMessageOf header (with_sections qs (record { head = head; rdata = it.rdata } ∷ []) [] (opt_record opt ∷ [])) m → IsWholeOrCut compresses query head May opt capacity limit m
  cut : (plain header : Header) → AnswersHeaderOf query 0 plain → SetsHigh 2 2 1 plain header → (qs : List QuestionFields) (asked : List ℕ) → RepeatsIn compresses query qs asked
      → MustBeCut compresses head May opt asked capacity limit → IsMessageOf header (with_sections qs [] [] (opt_record opt ∷ [])) m → IsWholeOrCut compresses query head May opt capacity limit m

-- Why there is not even one that is cut: the data of the record has more octets than a length tells, or the OPT
-- record has no room after the question.
pub data NotEvenCut (compresses : Bool) (query : List ℕ) (head : RecordHead) (May : List ℕ → List ℕ → Type 0) (opt : Opt) (octets : List ℕ) (capacity limit : ℕ) : Type 0 where
  not_begun : CannotAnswer compresses query octets capacity limit → NotEvenCut compresses query head May opt octets capacity limit
  too_long : (qs : List QuestionFields) (asked : List ℕ) → RepeatsIn compresses query qs asked → DataTooLong compresses head May (blank_header ++ asked) → NotEvenCut compresses query head May opt octets capacity limit
  no_opt : (qs : List QuestionFields) (asked : List ℕ) → RepeatsIn compresses query qs asked
      → HasNoRoomFor opt (length (blank_header ++ asked)) capacity limit → NotEvenCut compresses query head May opt octets capacity limit
