-- What contracts have as the members of a trait and of those above it, as one record.
use Rattle.std.specs.Prelude.{ℕ, Bool, List, Option}

-- What any target becomes by its own calls, given what it becomes when octets are appended and when a name is.
abbrev pub Writing : Type 1
Writing = (T : Type 0) → (T → List ℕ → T → Type 0) → (T → List (List ℕ) → T → Type 0) → T → T → Type 0

-- what a clause has as `Target.Composer`
abbrev pub ComposerMembers : Type 0 → Type 1
ComposerMembers T = record {
  with_octets : T → List ℕ → T;
  octets : T → List ℕ;
  capacity : T → ℕ;
  limit : Option ℕ;
  cuts : T → ℕ → T → Type 0;
  extends : T → List ℕ → T → Type 0;
  may_append : T → List (List ℕ) → List ℕ → Type 0;
  compresses : Bool;
  Memory : Type 0;
  memory : T → Memory;
  kept_within : ℕ → Memory → Memory;
  appends : T → List (List ℕ) → T → Type 0;
}

-- what a clause has as `D.ComposeRecordData`
abbrev pub DataMembers : Type 0 → Type 1
DataMembers D = record {
  type_number : D → ℕ;
  composed : D → Bool → List ℕ → List ℕ → Type 0;
  written : D → Writing;
  uncompressed : D → List ℕ;
  lowercase : D → Option (List ℕ);
  knows_len : D → Bool → Bool;
}
