-- Messages that answer others.
use Rattle.std.specs.Prelude.{◌≡◌, ℕ, ◌<◌, ◌-◌, ◌⊎◌, Bool, List, slice_index}
use Rattle.domain_header.specs.Bits.{bit, bits}
use Rattle.domain_header.specs.Headers.{header_id, header_high, header_low, question_count}
use Rattle.domain_header.specs.Numbers.{number16}
use Rattle.domain_header.specs.Values.{rcode_number}
use Rattle.domain_header.specs.declared.code.Rcode.{Rcode}
use Rattle.domain_header.specs.declared.flags.Header.{Header}
use Rattle.domain_message.specs.Composing.{type_and_class}
use Rattle.domain_message.specs.Entries.{QuestionFields, QuestionAt, NoQuestion}
use Rattle.domain_message.specs.LeftToTarget.{NameThen}
use Rattle.domain_message.specs.MayCompose.{IsNameThen}
use Rattle.domain_wire.specs.declared.error.ParseError.{ParseError}
use Rattle.domain_rdata.specs.ReadBack.{Exceeds}
use Rattle.domain_message_builder.specs.Contents.{AsksIn}
use Rattle.domain_message_builder.specs.Pushes.{with_header, record_count, PushesQuestion}
use Rattle.domain_message_builder.specs.Refusals.{QuestionRefused}
use Rattle.domain_message_builder.specs.State.{State}
use Rattle.domain_message_builder.specs.Tight.{Surpasses, RefusedAsWritten}
use Rattle.domain_message_builder.specs.declared.error.PushError.{PushError}

-- The header of an answer to a query that has this identifier and these two octets of flags: the opcode, RD and CD are
-- those of the query, QR is set, and no other bit is (RFC 1035, 4.1.1; RFC 4035, 3.2.2).
pub record IsAnswerHeader (id high low rcode : ℕ) (answer : Header) : Type 0 where
  pub id_is : header_id answer ≡ id
  pub qr : bit 128 (header_high answer) ≡ 1
  pub opcode : bits 8 16 (header_high answer) ≡ bits 8 16 high
  pub aa : bit 4 (header_high answer) ≡ 0
  pub tc : bit 2 (header_high answer) ≡ 0
  pub rd : bit 1 (header_high answer) ≡ bit 1 high
  pub ra : bit 128 (header_low answer) ≡ 0
  pub z : bit 64 (header_low answer) ≡ 0
  pub ad : bit 32 (header_low answer) ≡ 0
  pub cd : bit 16 (header_low answer) ≡ bit 16 low
  pub rcode_is : bits 1 16 (header_low answer) ≡ rcode

-- The header is one of an answer to a query with this header, and has this response code.
abbrev pub AnswersHeader : Header → Rcode → Header → Type 0
AnswersHeader query rcode answer =
    IsAnswerHeader (header_id query) (header_high query) (header_low query) (rcode_number rcode) answer

-- The same of a query in a message of these octets.
abbrev pub AnswersHeaderOf : List ℕ → ℕ → Header → Type 0
AnswersHeaderOf m rcode answer = IsAnswerHeader (number16 m 0) (slice_index m 2) (slice_index m 3) rcode answer

-- The message counts no question, or the first is missing.
abbrev pub HasNoQuestion : List ℕ → Type 0
HasNoQuestion m = (number16 m 4 ≡ 0) ⊎ ((why : ParseError) × NoQuestion m 12 why)

-- The first question of the message is this one.
pub record BeginsWithQuestion (m : List ℕ) (q : QuestionFields) : Type 0 where
  pub counted : 0 < number16 m 4
  pub end : ℕ
  pub at : QuestionAt m 12 q end

-- What a target becomes where an answer to the message was begun. By its own calls it appended the first question: the
-- name, with its labels unchanged, then type and class. Or the message has no first question, and the target is
-- unchanged.
pub data RepeatsQuestion {T : Type 0} (extends : T → List ℕ → T → Type 0) (appends : T → List (List ℕ) → T → Type 0) (m : List ℕ) (old new : T) : Type 0 where
  repeats : (q : QuestionFields) → BeginsWithQuestion m q → NameThen extends (λ c d. appends c q.name d) (type_and_class q.rtype q.class) old new → RepeatsQuestion extends appends m old new
  nothing : HasNoQuestion m → new ≡ old → RepeatsQuestion extends appends m old new

-- The message has a first question.
abbrev pub HasQuestion : List ℕ → Type 0
HasQuestion m = (q : QuestionFields) × BeginsWithQuestion m q

-- The first question of the message, if it was composed, has no room in the target, or the message would have more
-- octets than `most`, as the target writes it: the name as the question has it, and four octets (RFC 1035, 4.1.2 and
-- 4.1.4). `may` tells what a target may append for a name.
abbrev pub DoesNotFit : {T E : Type 0} → (T → List ℕ) → (T → ℕ) → (T → List (List ℕ) → List ℕ → Type 0) → (T → List ℕ → T → Type 0) → (T → List (List ℕ) → T → Type 0) → List ℕ → ℕ → T → PushError E → Type 0
DoesNotFit octets capacity may extends appends m most old e =
    (q : QuestionFields) × BeginsWithQuestion m q
    × RefusedAsWritten (λ _. Exceeds (IsNameThen (may old q.name) (type_and_class q.rtype q.class)) (octets old) (capacity old))
    (Surpasses octets (NameThen extends (λ c d. appends c q.name d) (type_and_class q.rtype q.class)) old most) e

-- The target was given the question; or it was refused, and the target has the octets that it had, and remembers the
-- names that it did.
pub data GivenOrRefused {T M : Type 0} (octets : T → List ℕ) (memory : T → M) (given refused : Type 0) (old new : T) : Type 0 where
  was_given : given → GivenOrRefused octets memory given refused old new
  was_refused : refused → octets new ≡ octets old → memory new ≡ memory old → GivenOrRefused octets memory given refused old new

-- An answer to the message was begun: its header was set, and its first question was pushed, if it has one.
pub data StartsAnswer (compresses : Bool) (m : List ℕ) (rcode : ℕ) (old new : State) : Type 0 where
  repeats : AnswersHeaderOf m rcode new.header → (q : QuestionFields) → BeginsWithQuestion m q → PushesQuestion compresses q (with_header new.header old) new → StartsAnswer compresses m rcode old new
  nothing : AnswersHeaderOf m rcode new.header → HasNoQuestion m → new ≡ with_header new.header old → StartsAnswer compresses m rcode old new

-- Why none was begun, on a target of this capacity.
abbrev pub NotStarted : {E : Type 0} → Bool → List ℕ → State → ℕ → PushError E → Type 0
NotStarted compresses m s capacity e = (q : QuestionFields) × BeginsWithQuestion m q × QuestionRefused compresses q s capacity e

-- A question can't be pushed: it exceeds the target's room or the limit, or there are too many, or a record was
-- pushed.
abbrev pub CannotAsk : Bool → QuestionFields → State → ℕ → Type 0
CannotAsk compresses q s capacity = Exceeds (AsksIn compresses q s.octets) s.octets capacity ⊎ ((question_count s.counts ≡ 65535) ⊎ (Exceeds (AsksIn compresses q s.octets) s.octets (s.limit - s.reserved) ⊎ (0 < record_count s.counts)))

-- An answer was begun, or its header was set where the question can't be pushed.
pub data StartsError (compresses : Bool) (m : List ℕ) (rcode capacity : ℕ) (old new : State) : Type 0 where
  started : StartsAnswer compresses m rcode old new → StartsError compresses m rcode capacity old new
  bare : AnswersHeaderOf m rcode new.header → (q : QuestionFields) → BeginsWithQuestion m q → CannotAsk compresses q old capacity → new ≡ with_header new.header old → StartsError compresses m rcode capacity old new
