-- What a target becomes where a question or a record is composed into it, and why none is. `g` is `Target.Composer`,
-- `labels` returns the labels of a name, and `d` is `D.ComposeRecordData`.
use Rattle.std.specs.Prelude.{◌≡◌, ℕ, Bool, true, List, ◌++◌}
use Rattle.domain_header.specs.Values.{class_number, ttl_seconds}
use Rattle.domain_header.specs.declared.ttl.Ttl.{Ttl}
use Rattle.domain_rdata.specs.Canonical.{canonical_form, names_known, WithLengthAndForm}
use Rattle.domain_rdata.specs.Members.{ComposerMembers, DataMembers}
use Rattle.domain_rdata.specs.ReadBack.{Appended, Exceeds}
use Rattle.domain_rdata.specs.RecordData.{ComposeRefused, IfLong}
use Rattle.domain_rdata.specs.declared.record_data.CanonicalError.{CanonicalError}
use Rattle.domain_rdata.specs.declared.record_data.ComposeRdataError.{ComposeRdataError}
use Rattle.domain_message.specs.CanonicalRecords.{canonical_head, CanonicalRecordRefused}
use Rattle.domain_message.specs.Composing.{BeginsWithName}
use Rattle.domain_message.specs.LeftToTarget.{WritesQuestion, WritesRecord, NameThenLong}
use Rattle.domain_message.specs.MayCompose.{after_qname, after_owner, IsNameThen, RefusesRecord, MayComposeQuestion, MayComposeRecord, MayRefuseRecord}
use Rattle.domain_message.specs.RecordParts.{owner_of, class_of, data_of}
use Rattle.domain_message.specs.EntryViews.{question_name}
use Rattle.domain_message.specs.declared.question.Question.{Question}
use Rattle.domain_message.specs.declared.resource_record.Record.{Record}

-- The target remembers what it did before.
abbrev pub SameMemory : {T : Type 0} → ComposerMembers T → T → T → Type 0
SameMemory g old new = g.memory new ≡ g.memory old

-- Octets that the question may be composed into were appended.
abbrev pub ComposesQuestion : {T N : Type 0} → ComposerMembers T → (N → List (List ℕ)) → Question N → T → T → Type 0
ComposesQuestion g labels q old new =
    Appended (MayComposeQuestion labels q g.compresses (g.octets old)) (g.octets old) (g.octets new)

-- What was appended begins with what the target may append for the question's name, and with type and class after it.
abbrev pub BeginsWithQname : {T N : Type 0} → ComposerMembers T → (N → List (List ℕ)) → Question N → T → T → Type 0
BeginsWithQname g labels q old new =
    Appended (BeginsWithName (g.may_append old (labels (question_name q))) (after_qname q))
    (g.octets old) (g.octets new)

-- The target became what it is by its own calls for the question's name, and for the octets after it.
abbrev pub TakesQuestion : {T N : Type 0} → ComposerMembers T → (N → List (List ℕ)) → Question N → T → T → Type 0
TakesQuestion g labels q old new = WritesQuestion labels g.extends g.appends q old new

-- Octets that the question may be composed into exceed the spare capacity.
abbrev pub QuestionExceeds : {T N : Type 0} → ComposerMembers T → (N → List (List ℕ)) → Question N → T → Type 0
QuestionExceeds g labels q old =
    Exceeds (MayComposeQuestion labels q g.compresses (g.octets old)) (g.octets old) (g.capacity old)

-- The question, its name as the target may write it, exceeds the spare capacity.
abbrev pub QuestionOverflows : {T N : Type 0} → ComposerMembers T → (N → List (List ℕ)) → Question N → T → Type 0
QuestionOverflows g labels q old =
    Exceeds (IsNameThen (g.may_append old (labels (question_name q))) (after_qname q))
    (g.octets old) (g.capacity old)

-- Octets that the record may be composed into were appended.
abbrev pub ComposesRecord : {T N D : Type 0} → ComposerMembers T → (N → List (List ℕ)) → DataMembers D → Record N D → T → T → Type 0
ComposesRecord g labels d r old new =
    Appended (MayComposeRecord labels d.type_number d.composed r g.compresses (g.octets old))
    (g.octets old) (g.octets new)

-- What was appended begins with what the target may append for the owner's name, and with type, class and TTL after
-- it.
abbrev pub BeginsWithOwner : {T N D : Type 0} → ComposerMembers T → (N → List (List ℕ)) → DataMembers D → Record N D → T → T → Type 0
BeginsWithOwner g labels d r old new =
    Appended (BeginsWithName (g.may_append old (labels (owner_of r))) (after_owner d.type_number r))
    (g.octets old) (g.octets new)

-- The target became what it is by its own calls for the names of the record, and for the octets between them.
abbrev pub Takes : {T N D : Type 0} → ComposerMembers T → (N → List (List ℕ)) → DataMembers D → Record N D → T → T → Type 0
Takes {T = T} g labels d r old new =
    WritesRecord labels d.type_number g.octets g.extends g.cuts g.appends
    (λ x. d.written x T g.extends g.appends) r old new

-- Why the record wasn't composed: octets that it may be composed into exceed the spare capacity, or its data is too
-- long.
abbrev pub RecordNotComposed : {T N D E : Type 0} → ComposerMembers T → (N → List (List ℕ)) → DataMembers D → Record N D → T → ComposeRdataError E → Type 0
RecordNotComposed g labels d r old e =
    MayRefuseRecord labels d.type_number d.composed r g.compresses (g.octets old) (g.capacity old) e

-- Why the record wasn't composed: its owner's name, as the target may write it, and the numbers after it exceed the
-- spare capacity, or its data was refused after them.
abbrev pub TargetRefuses : {T N D E : Type 0} → ComposerMembers T → (N → List (List ℕ)) → DataMembers D → Record N D → T → ComposeRdataError E → Type 0
TargetRefuses g labels d r old e =
    RefusesRecord g.octets (g.may_append old (labels (owner_of r)))
    (λ a b. g.appends a (labels (owner_of r)) b) (after_owner d.type_number r)
    (λ t. ComposeRefused (d.composed (data_of r) g.compresses) t) old (g.capacity old) e

-- A record whose data is too long: the data is so as the target writes it after the owner's name and the numbers.
abbrev pub RecordOutgrows : {T N D E : Type 0} → ComposerMembers T → (N → List (List ℕ)) → DataMembers D → Record N D → T → ComposeRdataError E → Type 0
RecordOutgrows {T = T} g labels d r old e =
    IfLong (NameThenLong g.octets g.extends g.cuts (λ a b. g.appends a (labels (owner_of r)) b)
    (d.written (data_of r) T g.extends g.appends) (d.uncompressed (data_of r))
    (after_owner d.type_number r) old) e

-- whether it is known which octets of the record's data are names, where the canonical form asks for it
abbrev pub names_known_of : {N D : Type 0} → DataMembers D → Record N D → Bool
names_known_of d r = names_known (d.type_number (data_of r)) (d.lowercase (data_of r))

-- the canonical form of the record's data, where its names are known
abbrev pub form_of_data : {N D : Type 0} → DataMembers D → Record N D → List ℕ
form_of_data d r =
    canonical_form (d.type_number (data_of r)) (d.uncompressed (data_of r)) (d.lowercase (data_of r))

-- what the canonical form of the record with this TTL has before the length of the data
abbrev pub canonical_head_of : {N D : Type 0} → (N → List (List ℕ)) → DataMembers D → Record N D → Ttl → List ℕ
canonical_head_of labels d r ttl =
    canonical_head (labels (owner_of r)) (d.type_number (data_of r)) (class_number (class_of r)) (ttl_seconds ttl)

-- The names are known, and the canonical form of the record with this TTL was appended.
abbrev pub ComposesForm : {T N D : Type 0} → ComposerMembers T → (N → List (List ℕ)) → DataMembers D → Record N D → Ttl → T → T → Type 0
ComposesForm g labels d r ttl old new =
    (names_known_of d r ≡ true)
    × WithLengthAndForm (form_of_data d r) (g.octets old ++ canonical_head_of labels d r ttl) (g.octets new)

-- Why the canonical form of the record with this TTL wasn't appended.
abbrev pub FormNotComposed : {T N D E : Type 0} → ComposerMembers T → (N → List (List ℕ)) → DataMembers D → Record N D → Ttl → T → CanonicalError E → Type 0
FormNotComposed g labels d r ttl old e =
    CanonicalRecordRefused (names_known_of d r) (form_of_data d r) (canonical_head_of labels d r ttl) (g.octets old) (g.capacity old) e
