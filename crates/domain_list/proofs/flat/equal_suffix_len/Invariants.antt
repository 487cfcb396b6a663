use Rattle.std.proofs.Common.{◌≤◌, length, take}
use Rattle.domain_list.specs.EqualSuffixes.{EqualAfter}
use Rattle.domain_list.proofs.flat.equal_suffix_len.Given as goal

abbrev pub invariant-parts : goal.invariant-parts
invariant-parts l = record {
  alike : EqualAfter l.a l.b (take l.a_end l.a) (take l.b_end l.b) l.alike;
  a_inside : l.a_end ≤ length l.a;
  b_inside : l.b_end ≤ length l.b;
}

abbrev pub decreases-parts : goal.decreases-parts
decreases-parts l = l.a_end
