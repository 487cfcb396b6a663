use Rattle.std.proofs.Common.{length, ◌-◌, ◌≤◌, ◌+◌}
use Rattle.domain_message_builder.specs.Views.{state_of}
use Rattle.domain_make.proofs.Drafting.{Taken}
use Rattle.domain_make.proofs.line.take_lines.Given as goal

abbrev pub invariant-loop-at : goal.invariant-loop-at
invariant-loop-at g l = record {
  taken : Taken g.Target.Composer.compresses l.text l.count l.at l.stage (state_of g.Target.Octets.octets l.initial.message) (state_of g.Target.Octets.octets l.message);
  few : l.count ≤ l.at;
}

abbrev pub decreases-loop-at : goal.decreases-loop-at
decreases-loop-at g l = length l.text + 1 - l.at
