use Rattle.std.proofs.Common.{◌-◌}
use Rattle.domain_reading.proofs.Skipping.{Skipping}
use Rattle.domain_reading.proofs.read.encoding_end_with.Given as goal

abbrev pub invariant-heads : goal.invariant-heads
invariant-heads g l = Skipping l.message l.pos l.at l.len

abbrev pub decreases-heads : goal.decreases-heads
decreases-heads g l = 255 - l.len
