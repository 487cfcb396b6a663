use Rattle.std.proofs.Common.{◌+◌, ◌-◌}
use Rattle.domain_compress.proofs.WireLength.{Walked}
use Rattle.domain_compress.proofs.search.wire_len_at_with.Given as goal

abbrev pub invariant-heads : goal.invariant-heads
invariant-heads g l = Walked l.octets l.offset l.at l.len l.pointers

-- a label makes the octets more, and a pointer the pointers
abbrev pub decreases-heads : goal.decreases-heads
decreases-heads g l = (254 - l.len) + (255 - l.pointers)
