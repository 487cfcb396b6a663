use Rattle.std.proofs.Common.{rules, refl}
use Rattle.domain_wire.specs.Addresses.{exactly_whole}
use Rattle.domain_wire.proofs.net.Ipv4AddrFromArrayU84.from.Goals as goal

pub returns : goal.returns
returns c = (exactly_whole 4 c.args.octets (search rules), refl)
