-- What a target becomes where a question or a record was composed into it. By its own calls it appended the name (RFC
-- 1035, 4.1.4) and the numbers after it. The names in a record's data are left to it, too. `octets` returns the octets
-- of a target. `extends` and `appends` are what it becomes where its calls appended octets or a name. `cuts` is what
-- it becomes where it was cut, and `written` where data was composed into it.
use Rattle.std.specs.Prelude.{ℕ, List}
use Rattle.domain_rdata.specs.LeavingNames.{LeavesNames, Outgrows}
use Rattle.domain_message.specs.declared.question.Question.{Question}
use Rattle.domain_message.specs.declared.resource_record.Record.{Record}
use Rattle.domain_message.specs.MayCompose.{after_qname, after_owner}
use Rattle.domain_message.specs.RecordParts.{owner_of, data_of}
use Rattle.domain_message.specs.EntryViews.{question_name}

-- The target appended a name by its own call, and these octets after it.
pub record NameThen {T : Type 0} (extends : T → List ℕ → T → Type 0) (appends : T → T → Type 0)
    (numbers : List ℕ) (old new : T) : Type 0 where
  pub named : T
  pub name : appends old named
  pub rest : extends named numbers new

-- The same, and data with its length after them.
pub record NameThenData {T : Type 0} (octets : T → List ℕ) (extends : T → List ℕ → T → Type 0)
    (cuts : T → ℕ → T → Type 0) (appends written : T → T → Type 0) (numbers : List ℕ)
    (old new : T) : Type 0 where
  pub numbered : T
  pub front : NameThen extends appends numbers old numbered
  pub rest : LeavesNames octets extends cuts written numbered new

-- The same, and data after them that is too long, as the target writes it.
pub record NameThenLong {T : Type 0} (octets : T → List ℕ) (extends : T → List ℕ → T → Type 0)
    (cuts : T → ℕ → T → Type 0) (appends written : T → T → Type 0)
    (uncompressed numbers : List ℕ) (old : T) : Type 0 where
  pub numbered : T
  pub front : NameThen extends appends numbers old numbered
  pub rest : Outgrows octets extends cuts written uncompressed numbered

-- The question was composed so.
abbrev pub WritesQuestion : {N T : Type 0} → (N → List (List ℕ)) → (T → List ℕ → T → Type 0)
    → (T → List (List ℕ) → T → Type 0) → Question N → T → T → Type 0
WritesQuestion labels extends appends q =
    NameThen extends (λ c d. appends c (labels (question_name q)) d) (after_qname q)

-- The record was composed so.
abbrev pub WritesRecord : {N D T : Type 0} → (N → List (List ℕ)) → (D → ℕ) → (T → List ℕ)
    → (T → List ℕ → T → Type 0) → (T → ℕ → T → Type 0) → (T → List (List ℕ) → T → Type 0)
    → (D → T → T → Type 0) → Record N D → T → T → Type 0
WritesRecord labels number octets extends cuts appends written r =
    NameThenData octets extends cuts (λ c d. appends c (labels (owner_of r)) d)
    (written (data_of r)) (after_owner number r)
