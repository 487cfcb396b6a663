-- What contracts see of a message with a mark. `g` to `l` are as in `Builders`.
use Rattle.domain_message_builder.specs.Builders.{state, target_memory}
use Rattle.domain_message_builder.specs.Marks.{state_at}
use Rattle.domain_message_builder.specs.State.{State}
use Rattle.domain_message_builder.specs.declared.builder.MessageBuilder.{MessageBuilder}
use Rattle.domain_message_builder.specs.declared.marked_builder.MarkedBuilder.{MarkedBuilder}

-- the message as it is
abbrev pub marked_builder : {T E : Type 0} {g : _} {h : _} {i : _} {j : _} {k : _} {l : _} → MarkedBuilder T E g h i j k l → MessageBuilder T E g h i j k l
marked_builder b = b.builder

-- what it was when it was marked
abbrev pub marked_state : {T E : Type 0} {g : _} {h : _} {i : _} {j : _} {k : _} {l : _} → MarkedBuilder T E g h i j k l → State
marked_state b = state_at b.mark (state (marked_builder b))

-- what the target remembered then of the names that it wrote
abbrev pub marked_memory : {T E : Type 0} {g : _} {h : _} {i : _} {j : _} {k : _} {l : _} → MarkedBuilder T E g h i j k l → g.Memory
marked_memory {g = g} b = g.kept_within b.mark.len (target_memory (marked_builder b))
