use Rattle.std.proofs.Common.{◌+◌, ◌-◌, length}
use Rattle.domain_compress.proofs.ComparedInMessage.{Along}
use Rattle.domain_compress.proofs.search.pointers_at_with.Given as goal

abbrev pub invariant-heads : goal.invariant-heads
invariant-heads g l = Along l.octets l.offset l.name l.at l.passed l.pointers

-- a label makes the passed octets more, and a pointer the pointers
abbrev pub decreases-heads : goal.decreases-heads
decreases-heads g l = (length l.name - l.passed) + (255 - l.pointers)
