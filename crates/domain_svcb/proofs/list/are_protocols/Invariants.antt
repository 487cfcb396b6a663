use Rattle.std.proofs.Common.{◌≡◌, length}
use Rattle.domain_svcb.specs.Lists.{protocols_fit}
use Rattle.domain_svcb.proofs.list.are_protocols.Given as goal

abbrev pub invariant-loop-rest : goal.invariant-loop-rest
invariant-loop-rest l = protocols_fit (length l.octets) l.octets ≡ protocols_fit (length l.rest) l.rest

abbrev pub decreases-loop-rest : goal.decreases-loop-rest
decreases-loop-rest l = length l.rest
