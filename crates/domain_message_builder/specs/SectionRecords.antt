-- What contracts say about a push of a record: the words of `BuilderEntries`, for a `RecordBuilder` and its errors.
-- The type of a `RecordBuilder` states the section.
use Rattle.std.specs.Prelude.{◌≡◌, ℕ, List}
use Rattle.octseq.specs.declared.octets.Octets.{Ghosts}
use Rattle.domain_rdata.specs.Members.{DataMembers}
use Rattle.domain_message.specs.declared.resource_record.Record.{Record}
use Rattle.domain_message_builder.specs.BuilderAnswers as answers
use Rattle.domain_message_builder.specs.BuilderEntries as builder
use Rattle.domain_message_builder.specs.declared.opt.OptBuilder.{OptBuilder}
use Rattle.domain_message_builder.specs.SectionErrors.{push_error}
use Rattle.domain_message_builder.specs.SectionViews.{record_builder}
use Rattle.domain_message_builder.specs.declared.section_error.SectionError.{SectionError}
use Rattle.domain_message_builder.specs.declared.record_builder.RecordBuilder.{RecordBuilder}

-- The message is as it was.
abbrev pub IsUnchanged : {T S E : Type 0} {g : _} {h : _} {i : _} {j : _} {k : _} {l : _} {m : _}
    → RecordBuilder T S E g h i j k l m → RecordBuilder T S E g h i j k l m → Type 0
IsUnchanged old new = record_builder new ≡ record_builder old

-- The record was pushed into the section.
abbrev pub AddsRecord : {T S E N D : Type 0} {g : _} {h : _} {i : _} {j : _} {k : _} {l : _} {m : _}
    → (N → List (List ℕ)) → DataMembers D → Record N D → RecordBuilder T S E g h i j k l m → RecordBuilder T S E g h i j k l m → Type 0
AddsRecord {m = m} labels d r old new =
    builder.AddsRecord labels d m.SECTION r (record_builder old) (record_builder new)

-- The target became what it is by its own calls for the names of the record, and for the octets between them.
abbrev pub LeavesRecord : {T S E N D : Type 0} {g : _} {h : _} {i : _} {j : _} {k : _} {l : _} {m : _}
    → (N → List (List ℕ)) → DataMembers D → Record N D → RecordBuilder T S E g h i j k l m → RecordBuilder T S E g h i j k l m → Type 0
LeavesRecord labels d r old new =
    builder.LeavesRecord labels d r (record_builder old) (record_builder new)

-- Why the record wasn't pushed.
abbrev pub RecordNotAdded : {T S E N D : Type 0} {g : _} {h : _} {i : _} {j : _} {k : _} {l : _} {m : _}
    → (N → List (List ℕ)) → DataMembers D → Record N D → RecordBuilder T S E g h i j k l m → SectionError E → Type 0
RecordNotAdded {m = m} labels d r b e =
    builder.RecordNotAdded labels d m.SECTION r (record_builder b) (push_error e)

-- If the record was composed, the target refused it, or it surpasses the limit, as the target writes it.
abbrev pub RecordDoesNotFit : {T S E N D : Type 0} {g : _} {h : _} {i : _} {j : _} {k : _} {l : _} {m : _}
    → (N → List (List ℕ)) → DataMembers D → Record N D → RecordBuilder T S E g h i j k l m → SectionError E → Type 0
RecordDoesNotFit labels d r b e = builder.RecordDoesNotFit labels d r (record_builder b) (push_error e)

-- The OPT record was pushed as an additional record, and nothing is set aside any more.
abbrev pub AddsOpt : {T S E O : Type 0} {g : _} {h : _} {i : _} {j : _} {k : _} {l : _} {m : _} {o : Ghosts O}
    → OptBuilder O o → RecordBuilder T S E g h i j k l m → RecordBuilder T S E g h i j k l m → Type 0
AddsOpt opt old new = answers.AddsOpt opt (record_builder old) (record_builder new)

-- Why the OPT record wasn't pushed.
abbrev pub OptNotAdded : {T S E O : Type 0} {g : _} {h : _} {i : _} {j : _} {k : _} {l : _} {m : _} {o : Ghosts O}
    → OptBuilder O o → RecordBuilder T S E g h i j k l m → SectionError E → Type 0
OptNotAdded opt b e = answers.OptNotAdded opt (record_builder b) (push_error e)
