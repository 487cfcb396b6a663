use Rattle.std.proofs.Common.{ℕ, length, ◌≤◌, ◌<◌}
use Rattle.std.specs.Prelude.{slice_index}
use Rattle.domain_make.specs.Words.{IsBlank}
use Rattle.domain_make.proofs.remark.trimmed.Given as goal

abbrev pub invariant-loop-end : goal.invariant-loop-end
invariant-loop-end l = record {
  blank : (k : ℕ) → l.end ≤ k → k < length l.line → IsBlank (slice_index l.line k);
  within : l.end ≤ length l.line;
}

abbrev pub decreases-loop-end : goal.decreases-loop-end
decreases-loop-end l = l.end
