use Rattle.std.proofs.Common.{◌≡◌, ◌+◌, take, sum}
use Rattle.domain_buffer.proofs.rrset.are_lengths.Given as goal

abbrev pub invariant-loop-size : goal.invariant-loop-size
invariant-loop-size l = l.left + sum (take l.size-index l.lens) ≡ l.len
