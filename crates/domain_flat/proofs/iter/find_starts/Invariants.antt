use Rattle.std.proofs.Common.{◌≡◌, ◌≤◌, ◌-◌, length, take}
use Rattle.domain_label.specs.Wire.{labels_in}
use Rattle.domain_flat.specs.Starts.{label_starts}
use Rattle.domain_flat.proofs.LabelBounds.{IsSeam}
use Rattle.domain_flat.proofs.iter.find_starts.Given as goal

abbrev pub invariant-loop-start : goal.invariant-loop-start
invariant-loop-start l = record {
  within : l.start ≤ length l.octets;
  seam : IsSeam l.octets l.start;
  few : l.count ≤ 128;
  room : length l.starts ≡ 128;
  table : take l.count l.starts ≡ label_starts 0 (labels_in (take l.start l.octets));
}

abbrev pub decreases-loop-start : goal.decreases-loop-start
decreases-loop-start l = length l.octets - l.start
