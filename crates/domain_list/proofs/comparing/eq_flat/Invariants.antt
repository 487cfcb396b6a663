use Rattle.std.proofs.Common.{◌≡◌, ◌↔◌, length}
use Rattle.domain_label.specs.Lowercase.{lowercase}
use Rattle.domain_label.specs.Wire.{wire, AreLabels}
use Rattle.domain_list.proofs.comparing.eq_flat.Given as goal

abbrev pub invariant-loop-label : goal.invariant-loop-label
invariant-loop-label g l = record {
  can : (goal.iterator-loop-label g).can_next l.labels;
  ends : (goal.iterator-loop-label g).is_finite l.labels;
  size : length l.rest ≡ length (wire (g.I.LabelIterator.left l.labels));
  short : AreLabels (g.I.LabelIterator.left l.labels);
  same : (lowercase l.flat ≡ lowercase (wire (g.I.LabelIterator.left l.fn.labels))) ↔ (lowercase l.rest ≡ lowercase (wire (g.I.LabelIterator.left l.labels)));
}
