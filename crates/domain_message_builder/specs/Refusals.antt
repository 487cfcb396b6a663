-- Why a call was refused.
use Rattle.std.specs.Prelude.{◌≡◌, ℕ, ◌-◌, ◌<◌, Bool, List, ◌++◌, length}
use Rattle.domain_header.specs.Headers.{question_count}
use Rattle.domain_message.specs.Composing.{RecordExceeds, before_length}
use Rattle.domain_message.specs.Entries.{QuestionFields}
use Rattle.domain_message.specs.declared.section.Section.{Section}
use Rattle.domain_rdata.specs.ReadBack.{Exceeds}
use Rattle.domain_rdata.specs.RecordData.{NameOctets, IsTooLong}
use Rattle.domain_message_builder.specs.Contents.{RecordHead, AsksIn, RecordsIn}
use Rattle.domain_message_builder.specs.Pushes.{record_count, section_count, later_count}
use Rattle.domain_message_builder.specs.State.{State}
use Rattle.domain_message_builder.specs.declared.error.PushError.{PushError}
use Rattle.domain_message_builder.specs.declared.error.PushError.TheVariants.{Append, Long, Count, Limit, Order}
use Rattle.domain_message_builder.specs.declared.error.StartError.{StartError}
use Rattle.domain_message_builder.specs.declared.error.StartError.TheVariants.{Append as NoRoom, ShortLimit, NotEmpty}

-- Each error has its reason. The target has no room; or the data is too long; or the section has as many entries as
-- its count can encode. Or the message would exceed its limit; or a later section was begun.
abbrev pub Refused : {E : Type 0} → Type 0 → Type 0 → Type 0 → Type 0 → Type 0 → PushError E → Type 0
Refused no_room too_long too_many over_limit begun (Append e) = no_room
Refused no_room too_long too_many over_limit begun (Long e) = too_long
Refused no_room too_long too_many over_limit begun Count = too_many
Refused no_room too_long too_many over_limit begun Limit = over_limit
Refused no_room too_long too_many over_limit begun Order = begun

-- The record, composed as it may be, exceeds the spare capacity.
abbrev pub RecordTooBig : Bool → RecordHead → (List ℕ → List ℕ → Type 0) → List ℕ → ℕ → Type 0
RecordTooBig compresses head May t capacity = RecordExceeds head.owner head.rtype head.class head.ttl May compresses t capacity

-- Data of the record that may be composed has more octets than a length tells.
abbrev pub DataTooLong : Bool → RecordHead → (List ℕ → List ℕ → Type 0) → List ℕ → Type 0
DataTooLong compresses head May t = (named : List ℕ) × NameOctets head.owner compresses t named × IsTooLong May (t ++ named ++ before_length head.rtype head.class head.ttl)

-- Why a question wasn't appended to t, where a target has this capacity and the message these octets at most.
abbrev pub QuestionNotAppended : {E : Type 0} → Bool → QuestionFields → List ℕ → ℕ → ℕ → PushError E → Type 0
QuestionNotAppended compresses q t capacity most e = Refused (Exceeds (AsksIn compresses q t) t capacity) ⊥ ⊥ (Exceeds (AsksIn compresses q t) t most) ⊥ e

-- Why a record wasn't.
abbrev pub RecordNotAppended : {E : Type 0} → Bool → RecordHead → (List ℕ → List ℕ → Type 0) → List ℕ → ℕ → ℕ → PushError E → Type 0
RecordNotAppended compresses head May t capacity most e = Refused (RecordTooBig compresses head May t capacity) (DataTooLong compresses head May t) ⊥ (Exceeds (RecordsIn compresses head May t) t most) ⊥ e

-- Why a question wasn't pushed, where the target has this capacity.
abbrev pub QuestionRefused : {E : Type 0} → Bool → QuestionFields → State → ℕ → PushError E → Type 0
QuestionRefused compresses q s capacity e = Refused (Exceeds (AsksIn compresses q s.octets) s.octets capacity) ⊥ (question_count s.counts ≡ 65535)
    (Exceeds (AsksIn compresses q s.octets) s.octets (s.limit - s.reserved)) (0 < record_count s.counts) e

-- Why a record wasn't.
abbrev pub RecordRefused : {E : Type 0} → Bool → Section → RecordHead → (List ℕ → List ℕ → Type 0) → State → ℕ → PushError E → Type 0
RecordRefused compresses section head May s capacity e = Refused (RecordTooBig compresses head May s.octets capacity) (DataTooLong compresses head May s.octets) (section_count section s.counts ≡ 65535)
    (Exceeds (RecordsIn compresses head May s.octets) s.octets (s.limit - s.reserved)) (0 < later_count section s.counts) e

-- Why no message was begun on a target of these octets and this capacity.
abbrev pub NotBegun : {E : Type 0} → List ℕ → ℕ → ℕ → StartError E → Type 0
NotBegun octets capacity limit (NoRoom e) = capacity < 12
NotBegun octets capacity limit ShortLimit = limit < 12
NotBegun octets capacity limit NotEmpty = 0 < length octets
