use Rattle.std.proofs.Common.{◌≡◌, ◌-◌, ◌≤◌, length, take}
use Rattle.domain_label.specs.Lowercase.{lowercase}
use Rattle.domain_label.proofs.ignoring_case.same_parts.Given as goal

abbrev pub invariant-parts : goal.invariant-parts
invariant-parts l = record {
  inside : l.offset ≤ length l.a;
  front : lowercase (take l.offset l.a) ≡ lowercase (take l.offset l.b);
}

abbrev pub decreases-parts : goal.decreases-parts
decreases-parts l = l.last - l.offset
