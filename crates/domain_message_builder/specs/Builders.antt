-- What contracts say of a builder. Its type names what the traits of its target tell, and these words take it from
-- there: `g` what `Composer` tells, `h` `OctetsBuilder`, `i` `Truncate`, `j` `Octets`, `k` `Into` of the error, and
-- `l` `OctetsMut`.
use Rattle.std.specs.Prelude.{◌≡◌, ℕ, ◌<◌, List, length, IfSome}
use Rattle.domain_header.specs.Headers.{question_count}
use Rattle.domain_message.specs.SectionOrder.{section_after}
use Rattle.domain_message.specs.declared.section.Section.{Section}
use Rattle.domain_message_builder.specs.Contents.{Content, Holds}
use Rattle.domain_message_builder.specs.Pushes.{record_count, section_count, later_count, Rewinds, RewindsAll}
use Rattle.domain_message_builder.specs.Reading.{IsMessageOf}
use Rattle.domain_message_builder.specs.SectionStarts.{start_of}
use Rattle.domain_message_builder.specs.State.{State}
use Rattle.domain_message_builder.specs.Views.{state_of, target_of}
use Rattle.domain_message_builder.specs.declared.builder.MessageBuilder.{MessageBuilder}

-- what is seen of a builder
abbrev pub state : {T E : Type 0} {g : _} {h : _} {i : _} {j : _} {k : _} {l : _}
    → MessageBuilder T E g h i j k l → State
state {j = j} b = state_of j.octets b

-- how many octets the target has room for in all, without new memory
abbrev pub target_room : {T E : Type 0} {g : _} {h : _} {i : _} {j : _} {k : _} {l : _}
    → MessageBuilder T E g h i j k l → ℕ
target_room {j = j} b = j.capacity (target_of b)

-- what the target remembers of the names that it wrote
abbrev pub target_memory : {T E : Type 0} {g : _} {h : _} {i : _} {j : _} {k : _} {l : _}
    → MessageBuilder T E g h i j k l → g.Memory
target_memory {g = g} b = g.memory (target_of b)

-- how many octets the message has, with its header
abbrev pub message_len : {T E : Type 0} {g : _} {h : _} {i : _} {j : _} {k : _} {l : _}
    → MessageBuilder T E g h i j k l → ℕ
message_len {j = j} b = length (j.octets (target_of b))

-- There is a record.
abbrev pub HasRecords : {T E : Type 0} {g : _} {h : _} {i : _} {j : _} {k : _} {l : _}
    → MessageBuilder T E g h i j k l → Type 0
HasRecords b = 0 < record_count (state b).counts

-- There is no record.
abbrev pub HasNoRecords : {T E : Type 0} {g : _} {h : _} {i : _} {j : _} {k : _} {l : _}
    → MessageBuilder T E g h i j k l → Type 0
HasNoRecords b = record_count (state b).counts ≡ 0

-- A section after this one has a record.
abbrev pub HasLater : {T E : Type 0} {g : _} {h : _} {i : _} {j : _} {k : _} {l : _}
    → Section → MessageBuilder T E g h i j k l → Type 0
HasLater section b = 0 < later_count section (state b).counts

-- No section after this one has a record.
abbrev pub HasNoLater : {T E : Type 0} {g : _} {h : _} {i : _} {j : _} {k : _} {l : _}
    → Section → MessageBuilder T E g h i j k l → Type 0
HasNoLater section b = later_count section (state b).counts ≡ 0

-- There are 65,535 questions, and no count tells more.
abbrev pub HasMostQuestions : {T E : Type 0} {g : _} {h : _} {i : _} {j : _} {k : _} {l : _}
    → MessageBuilder T E g h i j k l → Type 0
HasMostQuestions b = question_count (state b).counts ≡ 65535

-- The section has 65,535 records, and no count tells more.
abbrev pub IsFull : {T E : Type 0} {g : _} {h : _} {i : _} {j : _} {k : _} {l : _}
    → Section → MessageBuilder T E g h i j k l → Type 0
IsFull section b = section_count section (state b).counts ≡ 65535

-- Cut to the octets that were there before, the target remembers what it did then.
abbrev pub KeepsMemory : {T E : Type 0} {g : _} {h : _} {i : _} {j : _} {k : _} {l : _}
    → MessageBuilder T E g h i j k l → MessageBuilder T E g h i j k l → Type 0
KeepsMemory {g = g} old new =
    g.kept_within (message_len old) (target_memory new) ≡ target_memory old

-- The target was cut to `n` octets.
abbrev pub CutsTo : {T E : Type 0} {g : _} {h : _} {i : _} {j : _} {k : _} {l : _}
    → ℕ → MessageBuilder T E g h i j k l → MessageBuilder T E g h i j k l → Type 0
CutsTo {i = i} n old new = i.cuts (target_of old) n (target_of new)

-- The target was cut where the section began.
abbrev pub CutsToSection : {T E : Type 0} {g : _} {h : _} {i : _} {j : _} {k : _} {l : _}
    → Section → MessageBuilder T E g h i j k l → MessageBuilder T E g h i j k l → Type 0
CutsToSection section old new = CutsTo (start_of section (state old).starts) old new

-- The target was cut where the section after this one began, if there is one.
abbrev pub CutsToNext : {T E : Type 0} {g : _} {h : _} {i : _} {j : _} {k : _} {l : _}
    → Section → MessageBuilder T E g h i j k l → MessageBuilder T E g h i j k l → Type 0
CutsToNext section old new = IfSome (section_after section) (λ next. CutsToSection next old new)

-- The records of the section and those after it were taken away again.
abbrev pub RewindsTo : {T E : Type 0} {g : _} {h : _} {i : _} {j : _} {k : _} {l : _}
    → Section → MessageBuilder T E g h i j k l → MessageBuilder T E g h i j k l → Type 0
RewindsTo {g = g} section old new = Rewinds g.compresses section (state old) (state new)

-- The records of the sections after this one were taken away again, if there are such sections.
abbrev pub RewindsToNext : {T E : Type 0} {g : _} {h : _} {i : _} {j : _} {k : _} {l : _}
    → Section → MessageBuilder T E g h i j k l → MessageBuilder T E g h i j k l → Type 0
RewindsToNext section old new = IfSome (section_after section) (λ next. RewindsTo next old new)

-- All entries were taken away again.
abbrev pub RewindsToHeader : {T E : Type 0} {g : _} {h : _} {i : _} {j : _} {k : _} {l : _}
    → MessageBuilder T E g h i j k l → MessageBuilder T E g h i j k l → Type 0
RewindsToHeader {g = g} old new = RewindsAll g.compresses (state old) (state new)

-- The octets are the message of whatever the builder holds.
abbrev pub FinishesAs : {T E : Type 0} {g : _} {h : _} {i : _} {j : _} {k : _} {l : _}
    → MessageBuilder T E g h i j k l → List ℕ → Type 0
FinishesAs {g = g} b m =
    (it : Content) → Holds g.compresses (state b) it → IsMessageOf (state b).header it m
