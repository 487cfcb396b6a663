-- What contracts have as the members of a trait and of those above it, as one record.
use Rattle.std.specs.Prelude.{ℕ, Bool, List}
use Rattle.domain_wire.specs.declared.error.ParseError.{ParseError}

-- what a clause has as `D.ParseRecordData`
abbrev pub ParseMembers : Type 0 → Type 1
ParseMembers D = record {
  type_number : D → ℕ;
  View : Type 0;
  model : D → View;
  reads_type : ℕ → Bool;
  encodes : ℕ → List ℕ → ℕ → View → ℕ → Type 0;
  fails_with : ℕ → List ℕ → ℕ → ParseError → Type 0;
}
