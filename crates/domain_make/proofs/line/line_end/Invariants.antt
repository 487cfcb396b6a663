use Rattle.std.proofs.Common.{ℕ, length, ◌-◌, ◌<◌, ◌≤◌}
use Rattle.std.specs.Prelude.{slice_index, ◌≢◌}
use Rattle.domain_make.proofs.line.line_end.Given as goal

abbrev pub invariant-loop-at : goal.invariant-loop-at
invariant-loop-at l = record {
  ahead : l.start ≤ l.at;
  within : l.at ≤ length l.text;
  inside : (k : ℕ) → l.start ≤ k → k < l.at → slice_index l.text k ≢ 10;
}

abbrev pub decreases-loop-at : goal.decreases-loop-at
decreases-loop-at l = length l.text - l.at
