use Rattle.std.proofs.Common.{drop}
use Rattle.domain_zone_signed.proofs.CoveringTypes.{SameCovered}
use Rattle.domain_zone_signed.proofs.signatures.is_covered.Given as goal

-- the rest decides
abbrev pub invariant-loop-octets : goal.invariant-loop-octets
invariant-loop-octets l = SameCovered (λ d. d.items) l.rtype l.rdata (drop l.octets-index l.rdata)
