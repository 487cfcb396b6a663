use Rattle.std.proofs.Common.{rules, ◌∙◌, ap, sym}
use Rattle.std.specs.Int.{w16, to_be_bytes}
use Rattle.std.specs.List.{flat_map}
use Rattle.domain_wire.specs.Addresses.{ipv6_of}
use Rattle.domain_wire.proofs.Segments.{eight_segments}
use Rattle.domain_wire.proofs.net.Ipv6AddrFromArrayU168.from.Goals as goal

pub returns : goal.returns
returns c = c.new.ensures ∙ ap (λ it. ipv6_of (flat_map (to_be_bytes w16) it)) (sym (eight_segments c.args.segments (search rules)))
