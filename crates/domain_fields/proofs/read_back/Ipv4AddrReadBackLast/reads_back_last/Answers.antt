use Rattle.domain_wire.specs.Addresses.{ipv4_of}
use Rattle.domain_wire.specs.Values.{FixedAt}
use Rattle.domain_fields.specs.ReadBack.{last_read_back}
use Rattle.domain_fields.proofs.read_back.Ipv4AddrReadBackLast.reads_back_last.Goals as goal

pub returns : goal.returns
returns c = last_read_back _ (FixedAt 4 ipv4_of) _ c.reads_back.ensures
