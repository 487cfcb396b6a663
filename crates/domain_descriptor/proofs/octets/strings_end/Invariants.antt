use Rattle.std.proofs.Common.{◌≤◌, ◌-◌, length}
use Rattle.domain_descriptor.proofs.Steps.{StringsLeft}
use Rattle.domain_descriptor.proofs.octets.strings_end.Given as goal

abbrev pub invariant-string : goal.invariant-string
invariant-string l = record {
  inside : l.at ≤ length l.message;
  left : StringsLeft l.message l.begin l.at;
}

abbrev pub decreases-string : goal.decreases-string
decreases-string l = length l.message - l.at
