-- What contracts have as the members of a trait and of the one above it, as one record.
use Rattle.std.specs.Prelude.{ℕ, Bool, List}
use Rattle.domain_wire.specs.declared.error.ParseError.{ParseError}

-- what a clause has as `⟦<R as ParseRecordData<'a>>⟧`
abbrev pub ReadingMembers : Type 0 → Type 1
ReadingMembers R = record {
  type_number : R → ℕ;
  View : Type 0;
  model : R → View;
  reads_type : ℕ → Bool;
  encodes : ℕ → List ℕ → ℕ → View → ℕ → Type 0;
  fails_with : ℕ → List ℕ → ℕ → ParseError → Type 0;
}
