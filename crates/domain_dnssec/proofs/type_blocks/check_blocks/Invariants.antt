use Rattle.std.proofs.Common.{length}
use Rattle.domain_dnssec.proofs.BlockWalk.{Walked}
use Rattle.domain_dnssec.proofs.type_blocks.check_blocks.Given as goal

abbrev pub invariant-loop-block : goal.invariant-loop-block
invariant-loop-block l = Walked l.octets l.least l.rest

abbrev pub decreases-loop-block : goal.decreases-loop-block
decreases-loop-block l = length l.rest
