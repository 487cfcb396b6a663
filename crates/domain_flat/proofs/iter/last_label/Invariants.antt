use Rattle.std.proofs.Common.{◌<◌, ◌-◌, length}
use Rattle.domain_flat.proofs.LabelBounds.{IsSeam}
use Rattle.domain_flat.proofs.iter.last_label.Given as goal

abbrev pub invariant-loop-start : goal.invariant-loop-start
invariant-loop-start l = record { within : l.start < length l.octets; seam : IsSeam l.octets l.start }

abbrev pub decreases-loop-start : goal.decreases-loop-start
decreases-loop-start l = length l.octets - l.start
