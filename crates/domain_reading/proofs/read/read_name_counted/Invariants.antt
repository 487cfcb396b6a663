use Rattle.std.proofs.Common.{◌+◌, ◌-◌}
use Rattle.domain_reading.proofs.WhileReading.{Goes}
use Rattle.domain_reading.proofs.read.read_name_counted.Given as goal

abbrev pub invariant-heads : goal.invariant-heads
invariant-heads g l = Goes l.limit l.message l.initial.progress.at l.progress l.entries l.initial.heads l.heads

-- a label makes the octets more, and a pointer the pointers
abbrev pub decreases-heads : goal.decreases-heads
decreases-heads g l = 510 - (l.progress.pointers + l.progress.len)
