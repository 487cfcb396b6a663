use Rattle.std.proofs.Common.{◌≡◌, ◌+◌, ◌++◌, length, take, drop}
use Rattle.domain_label.specs.Wire.{wire}
use Rattle.domain_list.specs.Dotted.{dotted}
use Rattle.domain_list.proofs.unescaped.put_dots.Given as goal

abbrev pub invariant-loop-label : goal.invariant-loop-label
invariant-loop-label g l = record {
  can : (goal.iterator-loop-label g).can_next l.labels;
  ends : (goal.iterator-loop-label g).is_finite l.labels;
  size : l.at + length (wire (g.I.LabelIterator.left l.labels)) ≡ length (wire (g.I.LabelIterator.left l.fn.labels));
  made : take l.at l.octets ++ dotted (g.I.LabelIterator.left l.labels) ≡ dotted (g.I.LabelIterator.left l.fn.labels);
  there : take (length (wire (g.I.LabelIterator.left l.labels))) (drop l.at l.octets) ≡ wire (g.I.LabelIterator.left l.labels);
  count : l.count + length (g.I.LabelIterator.left l.labels) ≡ length (g.I.LabelIterator.left l.fn.labels);
}
