-- What contracts see of the builders of sections. `g` to `l` are as in `Builders`, and `m` states the section.
use Rattle.std.specs.Prelude.{ℕ}
use Rattle.domain_message_builder.specs.Builders.{state, target_room, target_memory}
use Rattle.domain_message_builder.specs.State.{State}
use Rattle.domain_message_builder.specs.Views.{target_of}
use Rattle.domain_message_builder.specs.declared.builder.MessageBuilder.{MessageBuilder}
use Rattle.domain_message_builder.specs.declared.question_builder.QuestionBuilder.{QuestionBuilder}
use Rattle.domain_message_builder.specs.declared.record_builder.RecordBuilder.{RecordBuilder}

-- the message whose questions are pushed
abbrev pub question_builder : {T E : Type 0} {g : _} {h : _} {i : _} {j : _} {k : _} {l : _} → QuestionBuilder T E g h i j k l → MessageBuilder T E g h i j k l
question_builder b = b.builder

-- what is seen of it
abbrev pub question_state : {T E : Type 0} {g : _} {h : _} {i : _} {j : _} {k : _} {l : _} → QuestionBuilder T E g h i j k l → State
question_state b = state (question_builder b)

-- its target
abbrev pub question_target : {T E : Type 0} {g : _} {h : _} {i : _} {j : _} {k : _} {l : _} → QuestionBuilder T E g h i j k l → T
question_target b = target_of (question_builder b)

-- how many octets the target has room for in all, without new memory
abbrev pub question_room : {T E : Type 0} {g : _} {h : _} {i : _} {j : _} {k : _} {l : _} → QuestionBuilder T E g h i j k l → ℕ
question_room b = target_room (question_builder b)

-- what the target remembers of the names that it wrote
abbrev pub question_memory : {T E : Type 0} {g : _} {h : _} {i : _} {j : _} {k : _} {l : _} → QuestionBuilder T E g h i j k l → g.Memory
question_memory b = target_memory (question_builder b)

-- the message whose records are pushed
abbrev pub record_builder : {T S E : Type 0} {g : _} {h : _} {i : _} {j : _} {k : _} {l : _} {m : _} → RecordBuilder T S E g h i j k l m → MessageBuilder T E g h i j k l
record_builder b = b.builder

-- what is seen of it
abbrev pub record_state : {T S E : Type 0} {g : _} {h : _} {i : _} {j : _} {k : _} {l : _} {m : _} → RecordBuilder T S E g h i j k l m → State
record_state b = state (record_builder b)

-- its target
abbrev pub record_target : {T S E : Type 0} {g : _} {h : _} {i : _} {j : _} {k : _} {l : _} {m : _} → RecordBuilder T S E g h i j k l m → T
record_target b = target_of (record_builder b)

-- how many octets the target has room for in all, without new memory
abbrev pub record_room : {T S E : Type 0} {g : _} {h : _} {i : _} {j : _} {k : _} {l : _} {m : _} → RecordBuilder T S E g h i j k l m → ℕ
record_room b = target_room (record_builder b)

-- what the target remembers of the names that it wrote
abbrev pub record_memory : {T S E : Type 0} {g : _} {h : _} {i : _} {j : _} {k : _} {l : _} {m : _} → RecordBuilder T S E g h i j k l m → g.Memory
record_memory b = target_memory (record_builder b)
