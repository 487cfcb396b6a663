use Rattle.std.proofs.Common.{◌≡◌, ◌↔◌, ◌++◌, ℕ, List, length}
use Rattle.domain_label.specs.Wire.{wire}
use Rattle.domain_list.specs.Ends.{EndsWith}
use Rattle.domain_list.proofs.ends.ends_with_labels.Given as goal

abbrev pub invariant-labels : goal.invariant-labels
invariant-labels g l = record {
  sized : l.left ≡ length (wire (g.A.LabelIter.LabelIterator.left l.rest));
  part : (front : List (List ℕ)) × (g.A.NameLabels.labels l.a ≡ front ++ g.A.LabelIter.LabelIterator.left l.rest);
  same : EndsWith (g.A.LabelIter.LabelIterator.left l.rest) (g.B.NameLabels.labels l.b) ↔ EndsWith (g.A.NameLabels.labels l.a) (g.B.NameLabels.labels l.b);
}

abbrev pub decreases-labels : goal.decreases-labels
decreases-labels g l = l.left
