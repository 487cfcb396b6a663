use Rattle.std.proofs.Common.{◌≡◌}
use Rattle.domain_wire.specs.Addresses.{exactly_len, exactly_whole, ipv4_octets, ipv4_of}
use Rattle.domain_fields.specs.ReadBack.{fixed_read_back}
use Rattle.domain_fields.proofs.read_back.Ipv4AddrReadBackField.reads_back.Goals as goal

pub returns : goal.returns
returns c =
    let it = c.args.self.now in
    fixed_read_back 4 ipv4_of (ipv4_octets it) (λ seen. ipv4_octets seen ≡ ipv4_octets it) (exactly_len 4 it.octets) (exactly_whole 4 (ipv4_octets it) (exactly_len 4 it.octets))
