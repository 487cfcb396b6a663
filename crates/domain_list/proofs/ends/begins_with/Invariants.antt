use Rattle.std.proofs.Common.{◌≡◌, length}
use Rattle.domain_list.proofs.Ending.{starts}
use Rattle.domain_list.proofs.ends.begins_with.Given as goal

abbrev pub invariant-loop-y : goal.invariant-loop-y
invariant-loop-y g l =
    starts (g.B.LabelIterator.left l.b) (g.A.LabelIterator.left l.a) ≡ starts (g.B.LabelIterator.left l.fn.b) (g.A.LabelIterator.left l.fn.a)

abbrev pub decreases-loop-y : goal.decreases-loop-y
decreases-loop-y g l = length (g.B.LabelIterator.left l.b)
