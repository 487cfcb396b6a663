use Rattle.std.proofs.Common.{length, ◌-◌, ◌≤◌}
use Rattle.domain_make.specs.Words.{SymbolsTo}
use Rattle.domain_make.proofs.parts.ends_in_dot.Given as goal

abbrev pub invariant-loop-at : goal.invariant-loop-at
invariant-loop-at l = record {
  to : SymbolsTo l.text l.dot l.at;
  inside : l.at ≤ length l.text;
}

abbrev pub decreases-loop-at : goal.decreases-loop-at
decreases-loop-at l = length l.text - l.at
