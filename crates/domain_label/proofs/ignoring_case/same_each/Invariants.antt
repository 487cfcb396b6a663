use Rattle.std.proofs.Common.{◌≡◌, IsTrue, ◌↔◌, take}
use Rattle.domain_label.specs.Lowercase.{lowercase}
use Rattle.domain_label.proofs.ignoring_case.same_each.Given as goal

abbrev pub invariant-loop-i : goal.invariant-loop-i
invariant-loop-i l = IsTrue l.same ↔ (lowercase (take l.i l.a) ≡ lowercase (take l.i l.b))
