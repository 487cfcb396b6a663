-- What errors say, and what they write.
use Rattle.std.specs.Prelude.{◌≡◌, ℕ, Bool, true, false, List, codes}
use Rattle.domain_wire.specs.Refusals.{refusal, refusal_text}
use Rattle.domain_message_builder.specs.declared.error.PushError.{PushError}
use Rattle.domain_message_builder.specs.declared.error.PushError.TheVariants.{Append, Long, Count, Limit, Order}
use Rattle.domain_message_builder.specs.declared.error.PushOptionError.{PushOptionError}
use Rattle.domain_message_builder.specs.declared.error.PushOptionError.TheVariants.{Append as NoRoomForOption, Long as LongOptions, Form}
use Rattle.domain_message_builder.specs.declared.error.StartError.{StartError}
use Rattle.domain_message_builder.specs.declared.error.StartError.TheVariants.{Append as NoRoom, ShortLimit, NotEmpty}

-- why a message couldn't be begun
abbrev pub start_error_text : {E : Type 0} → StartError E → List ℕ
start_error_text (NoRoom _) = codes "buffer size exceeded"
start_error_text ShortLimit = codes "limit shorter than a header"
start_error_text NotEmpty = codes "target not empty"

-- why an entry wasn't pushed
abbrev pub push_error_text : {E : Type 0} → PushError E → List ℕ
push_error_text (Append _) = codes "buffer size exceeded"
push_error_text (Long _) = codes "record data too long"
push_error_text Count = codes "too many entries in a section"
push_error_text Limit = codes "message size exceeded"
push_error_text Order = codes "a later section was begun"

-- why an option wasn't pushed
abbrev pub option_error_text : {E : Type 0} → PushOptionError E → List ℕ
option_error_text (NoRoomForOption _) = codes "buffer size exceeded"
option_error_text (LongOptions _) = codes "record data too long"
option_error_text (Form why) = refusal_text (refusal why)

-- The push was refused for lack of room: in the target, or up to the limit.
abbrev pub is_for_room : {E : Type 0} → PushError E → Bool
is_for_room (Append _) = true
is_for_room (Long _) = false
is_for_room Count = false
is_for_room Limit = true
is_for_room Order = false

-- The push was refused before anything was composed.
abbrev pub is_early : {E : Type 0} → PushError E → Bool
is_early (Append _) = false
is_early (Long _) = false
is_early Count = true
is_early Limit = false
is_early Order = true

-- The error is one of those that are returned before anything is composed.
abbrev pub IsEarly : {E : Type 0} → PushError E → Type 0
IsEarly e = is_early e ≡ true
