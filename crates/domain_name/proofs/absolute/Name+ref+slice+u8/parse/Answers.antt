use Rattle.std.proofs.Common.{sym, ap, subst, ◌∙◌}
use Rattle.domain_label.specs.Wire.{labels_in, IsAbsoluteWire}
use Rattle.domain_label.proofs.WireLaws.{labels_in_wire, wire_absolute}
use Rattle.domain_flat.proofs.LabelsFromLeft.{absolute_once, name_slice}
use Rattle.domain_name.proofs.absolute.Name+ref+slice+u8.parse.Goals as goal

pub invariant_of-result : goal.invariant_of-result
invariant_of-result c =
    let n = c.in_ok-len.ensures.ok in
    let o = c.in_ok-octets.ensures.ok ∙ name_slice _ _ _ n.0 n.1 (sym c.peek_all.ensures ∙ n.3) n.4 in
    record { absolute = subst IsAbsoluteWire (sym o) (wire_absolute n.0 n.2) }

pub returns-clause-list : goal.returns-clause-list
returns-clause-list c = λ ls e at.
    let n = c.in_ok-len.ensures.ok in
    let o = c.in_ok-octets.ensures.ok ∙ name_slice _ _ _ n.0 n.1 (sym c.peek_all.ensures ∙ n.3) n.4 in
    ap labels_in o ∙ (labels_in_wire n.0 ∙ absolute_once n.0 ls n.1 at.after n.2.0 at.name.0 (sym n.3 ∙ (c.peek_all.ensures ∙ at.octets)))
