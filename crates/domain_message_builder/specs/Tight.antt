-- That an entry is refused only where it doesn't fit as the target writes it, which may write names shorter (RFC 1035,
-- 4.1.4).
use Rattle.std.specs.Prelude.{ℕ, ◌<◌, ⊤, List, length}
use Rattle.domain_message.specs.MayCompose.{IsNameThen, RefusesRecord, after_qname, after_owner}
use Rattle.domain_message.specs.RecordParts.{owner_of}
use Rattle.domain_message.specs.EntryViews.{question_name}
use Rattle.domain_message.specs.declared.question.Question.{Question}
use Rattle.domain_message.specs.declared.resource_record.Record.{Record}
use Rattle.domain_rdata.specs.ReadBack.{Exceeds}
use Rattle.domain_rdata.specs.declared.record_data.ComposeRdataError.{ComposeRdataError}
use Rattle.domain_rdata.specs.declared.record_data.ComposeRdataError.TheVariants.{Append as Full, Long as TooLong}
use Rattle.domain_message_builder.specs.declared.error.PushError.{PushError}
use Rattle.domain_message_builder.specs.declared.error.PushError.TheVariants.{Append, Long, Count, Limit, Order}

-- The target, written so, has more octets than these.
pub record Surpasses {T : Type 0} (octets : T → List ℕ) (Writes : T → T → Type 0) (old : T) (most : ℕ) : Type 0 where
  pub made : T
  pub written : Writes old made
  pub over : most < length (octets made)

-- Why an entry was refused that was composed: the target refused it, or it surpassed the limit as the target wrote it.
abbrev pub RefusedAsWritten : {E : Type 0} → (ComposeRdataError E → Type 0) → Type 0 → PushError E → Type 0
RefusedAsWritten Refuses over (Append e) = Refuses (Full e)
RefusedAsWritten Refuses over (Long e) = Refuses (TooLong e)
RefusedAsWritten Refuses over Limit = over
RefusedAsWritten Refuses over Count = ⊤
RefusedAsWritten Refuses over Order = ⊤

-- The question has no room in the target: its name, as the target may write it, and the four octets after it. `may`
-- tells what a target may append for a name.
abbrev pub QuestionHasNoRoom : {N T E : Type 0} → (N → List (List ℕ)) → (T → List ℕ) → (T → ℕ) → (T → List (List ℕ) → List ℕ → Type 0) → Question N → T → E → Type 0
QuestionHasNoRoom labels octets capacity may q old e = Exceeds (IsNameThen (may old (labels (question_name q))) (after_qname q)) (octets old) (capacity old)

-- The target refused the record. `Refuses t room e`: it refuses the data so after the octets t.
abbrev pub RefusesEntry : {N D T E : Type 0} → (N → List (List ℕ)) → (D → ℕ) → (T → List ℕ) → (T → ℕ) → (T → List (List ℕ) → List ℕ → Type 0) → (T → List (List ℕ) → T → Type 0) → (List ℕ → ℕ → E → Type 0) → Record N D → T → E → Type 0
RefusesEntry labels number octets capacity may appends Refuses r old e = RefusesRecord octets (may old (labels (owner_of r))) (λ c d. appends c (labels (owner_of r)) d) (after_owner number r) Refuses old (capacity old) e
