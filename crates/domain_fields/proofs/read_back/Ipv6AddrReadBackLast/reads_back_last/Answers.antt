use Rattle.domain_wire.specs.Addresses.{ipv6_of}
use Rattle.domain_wire.specs.Values.{FixedAt}
use Rattle.domain_fields.specs.ReadBack.{last_read_back}
use Rattle.domain_fields.proofs.read_back.Ipv6AddrReadBackLast.reads_back_last.Goals as goal

pub returns : goal.returns
returns c = last_read_back _ (FixedAt 16 ipv6_of) _ c.reads_back.ensures
