use Rattle.std.proofs.Common.{◌≤◌, ◌-◌, length}
use Rattle.domain_descriptor.proofs.Steps.{ParamsLeft}
use Rattle.domain_descriptor.proofs.blocks.params_end.Given as goal

abbrev pub invariant-param : goal.invariant-param
invariant-param l = record {
  inside : l.at ≤ length l.message;
  left : ParamsLeft l.message l.begin l.at l.least;
}

abbrev pub decreases-param : goal.decreases-param
decreases-param l = length l.message - l.at
