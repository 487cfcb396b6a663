-- What contracts say about a push to a builder. `labels` returns the labels of a name, `d` is `D.ComposeRecordData`,
-- and `g` to `l` are as in `Builders`.
use Rattle.std.specs.Prelude.{ℕ, ◌-◌, List}
use Rattle.domain_message.specs.declared.section.Section.{Section}
use Rattle.domain_rdata.specs.Members.{DataMembers}
use Rattle.domain_message.specs.LeftToTarget.{WritesQuestion, WritesRecord}
use Rattle.domain_message.specs.declared.question.Question.{Question}
use Rattle.domain_message.specs.declared.resource_record.Record.{Record}
use Rattle.domain_rdata.specs.RecordData.{ComposeRefused}
use Rattle.domain_message_builder.specs.Builders.{state, target_room}
use Rattle.domain_message_builder.specs.Members.{head_of, data_octets_of}
use Rattle.domain_message_builder.specs.Pushes.{asked, with_reserved, PushesQuestion, PushesRecord}
use Rattle.domain_message_builder.specs.Refusals.{QuestionRefused, RecordRefused}
use Rattle.domain_message_builder.specs.Tight.{Surpasses, RefusedAsWritten, QuestionHasNoRoom, RefusesEntry}
use Rattle.domain_message_builder.specs.Views.{target_of}
use Rattle.domain_message_builder.specs.declared.builder.MessageBuilder.{MessageBuilder}
use Rattle.domain_message_builder.specs.declared.error.PushError.{PushError}

-- The question was pushed.
abbrev pub AddsQuestion : {T E N : Type 0} {g : _} {h : _} {i : _} {j : _} {k : _} {l : _}
    → (N → List (List ℕ)) → Question N → MessageBuilder T E g h i j k l → MessageBuilder T E g h i j k l → Type 0
AddsQuestion {g = g} labels q old new =
    PushesQuestion g.compresses (asked labels q) (state old) (state new)

-- The target became what it is by its own calls for the question's name, and for the octets after it.
abbrev pub LeavesQuestion : {T E N : Type 0} {g : _} {h : _} {i : _} {j : _} {k : _} {l : _}
    → (N → List (List ℕ)) → Question N → MessageBuilder T E g h i j k l → MessageBuilder T E g h i j k l → Type 0
LeavesQuestion {g = g} {h = h} labels q old new =
    WritesQuestion labels h.extends g.appends q (target_of old) (target_of new)

-- Why the question wasn't pushed.
abbrev pub QuestionNotAdded : {T E N : Type 0} {g : _} {h : _} {i : _} {j : _} {k : _} {l : _}
    → (N → List (List ℕ)) → Question N → MessageBuilder T E g h i j k l → PushError E → Type 0
QuestionNotAdded {g = g} labels q b e =
    QuestionRefused g.compresses (asked labels q) (state b) (target_room b) e

-- how many octets the message may have in all once an entry was pushed
abbrev pub most_octets : {T E : Type 0} {g : _} {h : _} {i : _} {j : _} {k : _} {l : _}
    → MessageBuilder T E g h i j k l → ℕ
most_octets b = (state b).limit - (state b).reserved

-- If the question was composed, it has no room in the target, or surpasses the limit, as the target writes it.
abbrev pub QuestionDoesNotFit : {T E N : Type 0} {g : _} {h : _} {i : _} {j : _} {k : _} {l : _}
    → (N → List (List ℕ)) → Question N → MessageBuilder T E g h i j k l → PushError E → Type 0
QuestionDoesNotFit {g = g} {h = h} {j = j} labels q b e =
    RefusedAsWritten (QuestionHasNoRoom labels j.octets j.capacity g.may_append q (target_of b))
    (Surpasses j.octets (WritesQuestion labels h.extends g.appends q) (target_of b) (most_octets b)) e

-- The record was pushed into the section.
abbrev pub AddsRecord : {T E N D : Type 0} {g : _} {h : _} {i : _} {j : _} {k : _} {l : _}
    → (N → List (List ℕ)) → DataMembers D → Section → Record N D → MessageBuilder T E g h i j k l → MessageBuilder T E g h i j k l → Type 0
AddsRecord {g = g} labels d section r old new =
    PushesRecord g.compresses section (head_of labels d r) (data_octets_of d g.compresses r) (state old) (state new)

-- The record was pushed into the section, and `kept` octets remain set aside.
abbrev pub AddsRecordKeeping : {T E N D : Type 0} {g : _} {h : _} {i : _} {j : _} {k : _} {l : _}
    → (N → List (List ℕ)) → DataMembers D → Section → Record N D → ℕ → MessageBuilder T E g h i j k l → MessageBuilder T E g h i j k l → Type 0
AddsRecordKeeping {g = g} labels d section r kept old new =
    PushesRecord g.compresses section (head_of labels d r) (data_octets_of d g.compresses r) (with_reserved kept (state old)) (state new)

-- The target became what it is by its own calls for the names of the record, and for the octets between them.
abbrev pub LeavesRecord : {T E N D : Type 0} {g : _} {h : _} {i : _} {j : _} {k : _} {l : _}
    → (N → List (List ℕ)) → DataMembers D → Record N D → MessageBuilder T E g h i j k l → MessageBuilder T E g h i j k l → Type 0
LeavesRecord {T = T} {g = g} {h = h} {i = i} {j = j} labels d r old new =
    WritesRecord labels d.type_number j.octets h.extends i.cuts g.appends (λ x. d.written x T h.extends g.appends) r (target_of old) (target_of new)

-- Why the record wasn't pushed.
abbrev pub RecordNotAdded : {T E N D : Type 0} {g : _} {h : _} {i : _} {j : _} {k : _} {l : _}
    → (N → List (List ℕ)) → DataMembers D → Section → Record N D → MessageBuilder T E g h i j k l → PushError E → Type 0
RecordNotAdded {g = g} labels d section r b e =
    RecordRefused g.compresses section (head_of labels d r) (data_octets_of d g.compresses r) (state b) (target_room b) e

-- Why the record wasn't pushed where `kept` octets remain set aside.
abbrev pub RecordNotAddedKeeping : {T E N D : Type 0} {g : _} {h : _} {i : _} {j : _} {k : _} {l : _}
    → (N → List (List ℕ)) → DataMembers D → Section → Record N D → ℕ → MessageBuilder T E g h i j k l → PushError E → Type 0
RecordNotAddedKeeping {g = g} labels d section r kept b e =
    RecordRefused g.compresses section (head_of labels d r) (data_octets_of d g.compresses r) (with_reserved kept (state b)) (target_room b) e

-- If the record was composed, the target refused it, or it surpasses the limit, as the target writes it.
abbrev pub RecordDoesNotFit : {T E N D : Type 0} {g : _} {h : _} {i : _} {j : _} {k : _} {l : _}
    → (N → List (List ℕ)) → DataMembers D → Record N D → MessageBuilder T E g h i j k l → PushError E → Type 0
RecordDoesNotFit {T = T} {g = g} {h = h} {i = i} {j = j} labels d r b e =
    RefusedAsWritten (RefusesEntry labels d.type_number j.octets j.capacity g.may_append g.appends
    (λ t. ComposeRefused (data_octets_of d g.compresses r) t) r (target_of b))
    (Surpasses j.octets (WritesRecord labels d.type_number j.octets h.extends i.cuts g.appends
    (λ x. d.written x T h.extends g.appends) r) (target_of b) (most_octets b)) e

-- Like `RecordDoesNotFit`, where `kept` octets of the limit remain set aside.
abbrev pub RecordDoesNotFitKeeping : {T E N D : Type 0} {g : _} {h : _} {i : _} {j : _} {k : _} {l : _}
    → (N → List (List ℕ)) → DataMembers D → Record N D → ℕ → MessageBuilder T E g h i j k l → PushError E → Type 0
RecordDoesNotFitKeeping {T = T} {g = g} {h = h} {i = i} {j = j} labels d r kept b e =
    RefusedAsWritten (RefusesEntry labels d.type_number j.octets j.capacity g.may_append g.appends
    (λ t. ComposeRefused (data_octets_of d g.compresses r) t) r (target_of b))
    (Surpasses j.octets (WritesRecord labels d.type_number j.octets h.extends i.cuts g.appends
    (λ x. d.written x T h.extends g.appends) r) (target_of b) ((state b).limit - kept)) e
