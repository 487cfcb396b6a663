-- RRsets and their signatures. `d` and `e` are `D.ComposeRecordData`, `owner` has the labels of the owner's name, and
-- `g` to `l` are what the traits of the target tell.
use Rattle.std.specs.Prelude.{◌⊎◌, ℕ, true, List}
use Rattle.domain_header.specs.declared.class.Class.{Class}
use Rattle.domain_header.specs.declared.ttl.Ttl.{Ttl}
use Rattle.domain_message.specs.declared.section.Section.{Section}
use Rattle.domain_rdata.specs.Members.{DataMembers}
use Rattle.domain_message_builder.specs.Builders.{state}
use Rattle.domain_message_builder.specs.Ends.{MarksCut}
use Rattle.domain_message_builder.specs.Rrsets.{AddsRrset, RrsetNotAdded}
use Rattle.domain_message_builder.specs.declared.builder.MessageBuilder.{MessageBuilder}
use Rattle.domain_message_builder.specs.declared.error.PushError.{PushError}

-- The RRset was pushed, and then its signatures.
abbrev pub AddsSigned : {T E D S : Type 0} {g : _} {h : _} {i : _} {j : _} {k : _} {l : _}
    → DataMembers D → DataMembers S → Section → List (List ℕ) → Class → Ttl → List D → List S → MessageBuilder T E g h i j k l → MessageBuilder T E g h i j k l → Type 0
AddsSigned {T = T} {E = E} {g = g} {h = h} {i = i} {j = j} {k = k} {l = l} d e section owner class ttl xs ys old new =
    (mid : MessageBuilder T E g h i j k l) × AddsRrset d section owner class ttl xs old mid × AddsRrset e section owner class ttl ys mid new

-- One of them was refused.
abbrev pub SignedNotAdded : {T E D S : Type 0} {g : _} {h : _} {i : _} {j : _} {k : _} {l : _}
    → DataMembers D → DataMembers S → Section → List (List ℕ) → Class → Ttl → List D → List S → MessageBuilder T E g h i j k l → Type 0
SignedNotAdded {T = T} {E = E} {g = g} {h = h} {i = i} {j = j} {k = k} {l = l} d e section owner class ttl xs ys old =
    (error : PushError E) × (RrsetNotAdded d section owner class ttl xs old error
    ⊎ ((mid : MessageBuilder T E g h i j k l) × AddsRrset d section owner class ttl xs old mid × RrsetNotAdded e section owner class ttl ys mid error))

-- They were pushed; or one of them was refused, and TC alone was set (RFC 4035, 3.1.1).
abbrev pub PushesSigned : {T E D S : Type 0} {g : _} {h : _} {i : _} {j : _} {k : _} {l : _}
    → DataMembers D → DataMembers S → Section → List (List ℕ) → Class → Ttl → List D → List S → MessageBuilder T E g h i j k l → MessageBuilder T E g h i j k l → Type 0
PushesSigned d e section owner class ttl xs ys old new =
    AddsSigned d e section owner class ttl xs ys old new
    ⊎ (MarksCut true (state old) (state new) × SignedNotAdded d e section owner class ttl xs ys old)
