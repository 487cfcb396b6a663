use Rattle.std.proofs.Common.{◌≡◌, length}
use Rattle.domain_label.specs.Lowercase.{cmp_ignoring_case}
use Rattle.domain_label.proofs.order.order_ignoring_case.Given as goal

abbrev pub invariant-loop-a : goal.invariant-loop-a
invariant-loop-a l = cmp_ignoring_case l.a l.b ≡ cmp_ignoring_case l.fn.a l.fn.b

abbrev pub decreases-loop-a : goal.decreases-loop-a
decreases-loop-a l = length l.a
