use Rattle.domain_label.proofs.WireLaws.{relative_wire}
use Rattle.domain_flat.proofs.Splits.{relative_part, end_inside}
use Rattle.domain_name.proofs.relative.RelativeName.slice.Goals as goal

pub slice_bounds-result-end : goal.slice_bounds-result-end
slice_bounds-result-end g c = rw c.as_slice.ensures.octets (end_inside _ c.args.range.end (relative_wire c.args.self.now.relative) c.requires.end)

pub invariant_of-result : goal.invariant_of-result
invariant_of-result g c =
    let p = relative_part _ c.args.range.start c.args.range.end c.args.self.now.relative c.requires.start c.requires.end c.requires.ordered in
    record { relative = rw c.as_slice.ensures.octets p.relative }

pub returns : goal.returns
returns g c =
    let p = relative_part _ c.args.range.start c.args.range.end c.args.self.now.relative c.requires.start c.requires.end c.requires.ordered in
    rw c.as_slice.ensures.octets p.stands
