use Rattle.std.proofs.Common.{◌≡◌, length, ◌↔◌}
use Rattle.domain_label.specs.Lowercase.{lowercase_labels}
use Rattle.domain_list.proofs.comparing.eq_labels.Given as goal

abbrev pub invariant-loop-x : goal.invariant-loop-x
invariant-loop-x g l =
    (lowercase_labels (g.A.LabelIterator.left l.a) ≡ lowercase_labels (g.B.LabelIterator.left l.b)) ↔ (lowercase_labels (g.A.LabelIterator.left l.fn.a) ≡ lowercase_labels (g.B.LabelIterator.left l.fn.b))

abbrev pub decreases-loop-x : goal.decreases-loop-x
decreases-loop-x g l = length (g.A.LabelIterator.left l.a)
