use Rattle.std.proofs.Common.{rules, refl}
use Rattle.domain_wire.specs.Addresses.{exactly_whole}
use Rattle.domain_wire.proofs.net.Ipv6AddrFromArrayU816.from.Goals as goal

pub returns : goal.returns
returns c = (exactly_whole 16 c.args.octets (search rules), refl)
