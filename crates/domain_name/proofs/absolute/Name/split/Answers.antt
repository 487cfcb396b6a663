use Rattle.domain_label.proofs.WireLaws.{absolute_wire}
use Rattle.domain_flat.proofs.Splits.{absolute_parts, start_inside}
use Rattle.domain_name.proofs.absolute.Name.split.Goals as goal

pub split_at-requires : goal.split_at-requires
split_at-requires g c = rw c.as_slice.ensures.octets (start_inside _ c.args.mid (absolute_wire c.args.self.now.absolute) c.requires)

pub from_wire-requires : goal.from_wire-requires
from_wire-requires g c =
    let p = absolute_parts _ c.args.mid c.args.self.now.absolute c.requires in
    rw (c.split_at.ensures.front, c.as_slice.ensures.octets) p.front

pub invariant_of-result : goal.invariant_of-result
invariant_of-result g c =
    let p = absolute_parts _ c.args.mid c.args.self.now.absolute c.requires in
    record { absolute = rw (c.split_at.ensures.back, c.as_slice.ensures.octets) p.back }

pub returns-clause-parts : goal.returns-clause-parts
returns-clause-parts g c =
    let p = absolute_parts _ c.args.mid c.args.self.now.absolute c.requires in
    rw (c.from_wire.ensures, c.split_at.ensures.front, c.split_at.ensures.back, c.as_slice.ensures.octets) p.parts
