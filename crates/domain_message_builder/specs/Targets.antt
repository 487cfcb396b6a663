-- What a target becomes where an entry is appended up to a limit. `g` is `Target.Composer`, `labels` returns the
-- labels of a name, and `d` is `D.ComposeRecordData`.
use Rattle.std.specs.Prelude.{◌≡◌, ℕ, List, []}
use Rattle.domain_rdata.specs.Members.{ComposerMembers, DataMembers}
use Rattle.domain_rdata.specs.ReadBack.{Appended}
use Rattle.domain_rdata.specs.RecordData.{ComposeRefused}
use Rattle.domain_message.specs.LeftToTarget.{WritesQuestion, WritesRecord}
pub use Rattle.domain_message.specs.Targets.{TakesQuestion, Takes}
use Rattle.domain_message.specs.declared.question.Question.{Question}
use Rattle.domain_message.specs.declared.resource_record.Record.{Record}
use Rattle.domain_message_builder.specs.Contents.{blank_header, AsksIn, RecordsIn}
use Rattle.domain_message_builder.specs.Members.{head_of, data_octets_of}
use Rattle.domain_message_builder.specs.Pushes.{asked}
use Rattle.domain_message_builder.specs.Refusals.{NotBegun, QuestionNotAppended, RecordNotAppended}
use Rattle.domain_message_builder.specs.Tight.{Surpasses, RefusedAsWritten, QuestionHasNoRoom, RefusesEntry}
use Rattle.domain_message_builder.specs.declared.error.PushError.{PushError}
use Rattle.domain_message_builder.specs.declared.error.StartError.{StartError}

-- Why no message of at most `limit` octets was begun on the target.
abbrev pub NotBegunOn : {T E : Type 0} → ComposerMembers T → T → ℕ → StartError E → Type 0
NotBegunOn g target limit e = NotBegun (g.octets target) (g.capacity target) limit e

-- The target became what it is by its own call for the twelve octets that stand for the header.
abbrev pub BeginsOn : {T : Type 0} → ComposerMembers T → T → T → Type 0
BeginsOn g target made = g.extends target blank_header made

-- It became so where it had no octets.
abbrev pub BeginsOnNew : {T : Type 0} → ComposerMembers T → T → Type 0
BeginsOnNew {T = T} g made = (empty : T) × (g.octets empty ≡ []) × BeginsOn g empty made

-- Octets that the question may be composed into were appended.
abbrev pub AppendsQuestion : {T N : Type 0} → ComposerMembers T → (N → List (List ℕ)) → Question N → T → T → Type 0
AppendsQuestion g labels q old new =
    Appended (AsksIn g.compresses (asked labels q) (g.octets old)) (g.octets old) (g.octets new)

-- Why a message of at most `most` octets has no question more.
abbrev pub LacksQuestion : {T E N : Type 0} → ComposerMembers T → (N → List (List ℕ)) → Question N → ℕ → T → PushError E → Type 0
LacksQuestion g labels q most old e =
    QuestionNotAppended g.compresses (asked labels q) (g.octets old) (g.capacity old) most e

-- If the question was composed, it has no room in the target, or surpasses the limit, as the target writes it.
abbrev pub QuestionIsTooLong : {T E N : Type 0} → ComposerMembers T → (N → List (List ℕ)) → Question N → ℕ → T → PushError E → Type 0
QuestionIsTooLong g labels q most old e =
    RefusedAsWritten (QuestionHasNoRoom labels g.octets g.capacity g.may_append q old)
    (Surpasses g.octets (WritesQuestion labels g.extends g.appends q) old most) e

-- Octets that the record may be composed into were appended.
abbrev pub AppendsRecord : {T N D : Type 0} → ComposerMembers T → (N → List (List ℕ)) → DataMembers D → Record N D → T → T → Type 0
AppendsRecord g labels d r old new =
    Appended (RecordsIn g.compresses (head_of labels d r) (data_octets_of d g.compresses r) (g.octets old))
    (g.octets old) (g.octets new)

-- Why a message of at most `most` octets has no record more.
abbrev pub LacksRecord : {T E N D : Type 0} → ComposerMembers T → (N → List (List ℕ)) → DataMembers D → Record N D → ℕ → T → PushError E → Type 0
LacksRecord g labels d r most old e =
    RecordNotAppended g.compresses (head_of labels d r) (data_octets_of d g.compresses r) (g.octets old)
    (g.capacity old) most e

-- If the record was composed, the target refused it, or it surpasses the limit, as the target writes it.
abbrev pub Overfills : {T E N D : Type 0} → ComposerMembers T → (N → List (List ℕ)) → DataMembers D → Record N D → ℕ → T → PushError E → Type 0
Overfills {T = T} g labels d r most old e =
    RefusedAsWritten (RefusesEntry labels d.type_number g.octets g.capacity g.may_append g.appends
    (λ t. ComposeRefused (data_octets_of d g.compresses r) t) r old)
    (Surpasses g.octets (WritesRecord labels d.type_number g.octets g.extends g.cuts g.appends
    (λ x. d.written x T g.extends g.appends) r) old most) e
