-- What contracts see of a builder.
use Rattle.std.specs.Prelude.{ℕ, List}
use Rattle.domain_message_builder.specs.State.{State}
use Rattle.domain_message_builder.specs.declared.builder.MessageBuilder.{MessageBuilder}

-- the target
abbrev pub target_of : {T E : Type 0} {g : _} {h : _} {i : _} {j : _} {k : _} {l : _} → MessageBuilder T E g h i j k l → T
target_of b = b.target

-- what is seen of a builder whose target has the octets that `octets` tells
abbrev pub state_of : {T E : Type 0} {g : _} {h : _} {i : _} {j : _} {k : _} {l : _} → (T → List ℕ) → MessageBuilder T E g h i j k l → State
state_of octets b = record {
  header = b.header;
  limit = b.limit;
  reserved = b.reserved;
  counts = b.counts;
  starts = b.starts;
  octets = octets b.target;
}
