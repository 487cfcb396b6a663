use Rattle.std.proofs.Common.{◌≤◌, ◌-◌, length}
use Rattle.domain_label.specs.Wire.{labels_in}
use Rattle.domain_flat.specs.Flat.{IsLabelEnd}
use Rattle.domain_flat.proofs.LabelBounds.{IsSeam}
use Rattle.domain_flat.proofs.label_ends.is_label_end.Given as goal

abbrev pub invariant-loop-start : goal.invariant-loop-start
invariant-loop-start l = record {
  within : l.start ≤ length l.octets;
  seam : IsSeam l.octets l.start;
  before : IsLabelEnd (labels_in l.octets) l.offset → l.start ≤ l.offset;
}

abbrev pub decreases-loop-start : goal.decreases-loop-start
decreases-loop-start l = length l.octets - l.start
