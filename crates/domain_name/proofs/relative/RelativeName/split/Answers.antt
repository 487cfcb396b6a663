use Rattle.domain_label.proofs.WireLaws.{relative_wire}
use Rattle.domain_flat.proofs.Splits.{relative_parts, end_inside}
use Rattle.domain_name.proofs.relative.RelativeName.split.Goals as goal

pub split_at-requires : goal.split_at-requires
split_at-requires g c = rw c.as_slice.ensures.octets (end_inside _ c.args.mid (relative_wire c.args.self.now.relative) c.requires)

pub invariant_of-result : goal.invariant_of-result
invariant_of-result g c =
    let p = relative_parts _ c.args.mid c.args.self.now.relative c.requires in
    record { relative = rw (c.split_at.ensures.front, c.as_slice.ensures.octets) p.front }

pub invariant_of-result-2 : goal.invariant_of-result-2
invariant_of-result-2 g c =
    let p = relative_parts _ c.args.mid c.args.self.now.relative c.requires in
    record { relative = rw (c.split_at.ensures.back, c.as_slice.ensures.octets) p.back }

pub returns-clause-parts : goal.returns-clause-parts
returns-clause-parts g c =
    let p = relative_parts _ c.args.mid c.args.self.now.relative c.requires in
    rw (c.split_at.ensures.front, c.split_at.ensures.back, c.as_slice.ensures.octets) p.parts
