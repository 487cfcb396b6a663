use Rattle.std.proofs.Common.{◌≡◌, ◌+◌, ◌++◌, length, take}
use Rattle.domain_label.specs.Wire.{wire}
use Rattle.domain_list.proofs.composing.put_labels.Given as goal

abbrev pub invariant-loop-label : goal.invariant-loop-label
invariant-loop-label g l = record {
  can : (goal.iterator-loop-label g).can_next l.labels;
  ends : (goal.iterator-loop-label g).is_finite l.labels;
  size : l.len + length (wire (g.I.LabelIterator.left l.labels)) ≡ length (wire (g.I.LabelIterator.left l.fn.labels));
  wire : take l.len l.octets ++ wire (g.I.LabelIterator.left l.labels) ≡ wire (g.I.LabelIterator.left l.fn.labels);
}
