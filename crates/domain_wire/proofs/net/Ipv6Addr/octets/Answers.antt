use Rattle.std.proofs.Common.{rules, sym}
use Rattle.domain_wire.specs.Addresses.{exactly_whole}
use Rattle.domain_wire.proofs.net.Ipv6Addr.octets.Goals as goal

pub returns : goal.returns
returns c = sym (exactly_whole 16 c.args.self.now.octets (search rules))
