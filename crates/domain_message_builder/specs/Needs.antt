-- RRsets that an answer can't do without, and others (RFC 2181, 9). The words are those of `Rrsets`.
use Rattle.std.specs.Prelude.{◌≡◌, ℕ, Bool, true, false, List}
use Rattle.domain_header.specs.declared.class.Class.{Class}
use Rattle.domain_header.specs.declared.ttl.Ttl.{Ttl}
use Rattle.domain_message.specs.declared.section.Section.{Section}
use Rattle.domain_rdata.specs.Members.{DataMembers}
use Rattle.domain_message_builder.specs.Builders.{state}
use Rattle.domain_message_builder.specs.Ends.{MarksCut}
use Rattle.domain_message_builder.specs.Errors.{is_for_room}
use Rattle.domain_message_builder.specs.Rrsets.{AddsRrset, RrsetNotAdded}
use Rattle.domain_message_builder.specs.declared.builder.MessageBuilder.{MessageBuilder}
use Rattle.domain_message_builder.specs.declared.error.PushError.{PushError}

-- The RRset was pushed; or it wasn't, and TC alone was set.
abbrev pub PushesRequired : {T E D : Type 0} {g : _} {h : _} {i : _} {j : _} {k : _} {l : _}
    → DataMembers D → Section → List (List ℕ) → Class → Ttl → List D → MessageBuilder T E g h i j k l → MessageBuilder T E g h i j k l → Bool → Type 0
PushesRequired d section owner class ttl xs old new true = AddsRrset d section owner class ttl xs old new
PushesRequired d section owner class ttl xs old new false = MarksCut true (state old) (state new)

-- The RRset was pushed; or it wasn't, and the message is as it was.
abbrev pub PushesExtra : {T E D : Type 0} {g : _} {h : _} {i : _} {j : _} {k : _} {l : _}
    → DataMembers D → Section → List (List ℕ) → Class → Ttl → List D → MessageBuilder T E g h i j k l → MessageBuilder T E g h i j k l → Bool → Type 0
PushesExtra d section owner class ttl xs old new true = AddsRrset d section owner class ttl xs old new
PushesExtra d section owner class ttl xs old new false = state new ≡ state old

-- It was refused for lack of room.
abbrev pub HasNoRoomForRrset : {T E D : Type 0} {g : _} {h : _} {i : _} {j : _} {k : _} {l : _}
    → DataMembers D → Section → List (List ℕ) → Class → Ttl → List D → MessageBuilder T E g h i j k l → Type 0
HasNoRoomForRrset {E = E} d section owner class ttl xs b =
    (e : PushError E) × (is_for_room e ≡ true) × RrsetNotAdded d section owner class ttl xs b e

-- It was refused for another reason.
abbrev pub RrsetRefused : {T E D : Type 0} {g : _} {h : _} {i : _} {j : _} {k : _} {l : _}
    → DataMembers D → Section → List (List ℕ) → Class → Ttl → List D → MessageBuilder T E g h i j k l → PushError E → Type 0
RrsetRefused d section owner class ttl xs b e =
    (is_for_room e ≡ false) × RrsetNotAdded d section owner class ttl xs b e
