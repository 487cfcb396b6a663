use Rattle.std.proofs.Common.{◌≡◌}
use Rattle.domain_wire.specs.Addresses.{exactly_len, exactly_whole, ipv6_octets, ipv6_of}
use Rattle.domain_fields.specs.ReadBack.{fixed_read_back}
use Rattle.domain_fields.proofs.read_back.Ipv6AddrReadBackField.reads_back.Goals as goal

pub returns : goal.returns
returns c =
    let it = c.args.self.now in
    fixed_read_back 16 ipv6_of (ipv6_octets it) (λ seen. ipv6_octets seen ≡ ipv6_octets it) (exactly_len 16 it.octets) (exactly_whole 16 (ipv6_octets it) (exactly_len 16 it.octets))
