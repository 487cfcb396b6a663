use Rattle.domain_label.proofs.WireLaws.{absolute_wire}
use Rattle.domain_flat.proofs.Splits.{absolute_part, start_inside}
use Rattle.domain_name.proofs.absolute.Name.slice.Goals as goal

pub slice_bounds-from_wire-end : goal.slice_bounds-from_wire-end
slice_bounds-from_wire-end g c = rw c.as_slice.ensures.octets (start_inside _ c.args.range.end (absolute_wire c.args.self.now.absolute) c.requires.end)

pub from_wire-requires : goal.from_wire-requires
from_wire-requires g c =
    let p = absolute_part _ c.args.range.start c.args.range.end c.args.self.now.absolute c.requires.start c.requires.end c.requires.ordered in
    rw c.as_slice.ensures.octets p.relative

pub returns : goal.returns
returns g c =
    let p = absolute_part _ c.args.range.start c.args.range.end c.args.self.now.absolute c.requires.start c.requires.end c.requires.ordered in
    rw (c.from_wire.ensures, c.as_slice.ensures.octets) p.stands
