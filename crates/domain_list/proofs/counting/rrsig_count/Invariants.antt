use Rattle.std.proofs.Common.{◌≡◌, ◌+◌, ◌≤◌, length}
use Rattle.domain_list.specs.Count.{but_root, rrsig_labels}
use Rattle.domain_list.proofs.counting.rrsig_count.Given as goal

abbrev pub invariant-loop-label : goal.invariant-loop-label
invariant-loop-label g l = record {
  can : (goal.iterator-loop-label g).can_next l.labels;
  ends : (goal.iterator-loop-label g).is_finite l.labels;
  counted : l.count + length (but_root (g.I.LabelIterator.left l.labels)) ≡ rrsig_labels (g.I.LabelIterator.left l.fn.labels);
  few : l.count + length (g.I.LabelIterator.left l.labels) ≤ length (g.I.LabelIterator.left l.fn.labels);
}
