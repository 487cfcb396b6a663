use Rattle.std.proofs.Common.{refl}
use Rattle.domain_header.specs.Values.{class_number}
use Rattle.domain_zone_response.proofs.Growing.{head_is}
use Rattle.domain_zone_response.proofs.rrset.head_of.Goals as goal

pub returns : goal.returns
returns c =
    let k = class_number c.args.class in
    λ i. record { head = head_is _ _ _ _ k k _ _ c.owner.ensures c.rtype.ensures refl c.record_ttl.ensures i; rdata = c.args.octets.now }
