use Rattle.std.proofs.Common.{◌≤◌, ◌-◌, length}
use Rattle.domain_descriptor.proofs.Steps.{BlocksLeft}
use Rattle.domain_descriptor.proofs.blocks.blocks_end.Given as goal

abbrev pub invariant-block : goal.invariant-block
invariant-block l = record {
  inside : l.at ≤ length l.message;
  left : BlocksLeft l.message l.begin l.at l.least;
}

abbrev pub decreases-block : goal.decreases-block
decreases-block l = length l.message - l.at
