use Rattle.std.proofs.Common.{◌≡◌, ◌+◌, ◌↔◌, sym, subst, ap, ◌∙◌, length, take}
use Rattle.std.specs.Prelude.{IsSome, IfSome}
use Rattle.domain_label.specs.Wire.{wire, labels_in, IsWire}
use Rattle.domain_label.proofs.WireLaws.{labels_in_wire}
use Rattle.domain_list.specs.Ends.{EndsWith}
use Rattle.domain_name.proofs.Stripping.{name_wire}
use Rattle.domain_name.proofs.strip.suffix_offset.Goals as goal

pub offset_of_suffix-requires : goal.offset_of_suffix-requires
offset_of_suffix-requires g c =
    let bs = g.N.NameLabels.labels c.args.base.now in
    let e : c.in-Some.suffix.now ≡ wire bs = c.in-Some.ensures.wire in
    record { whole = c.requires; part = subst IsWire (sym e) (name_wire bs (g.met.N.NameLabels.lawful c.args.base.now)) }

pub returns-in-Some-clause-exact : goal.returns-in-Some-clause-exact
returns-in-Some-clause-exact g c =
    let bs = g.N.NameLabels.labels c.args.base.now in
    let e : labels_in c.in-Some.suffix.now ≡ bs = ap labels_in c.in-Some.ensures.wire ∙ labels_in_wire bs in
    subst (λ ls. IsSome c.offset_of_suffix.result ↔ EndsWith (labels_in c.args.octets.now) ls) e c.offset_of_suffix.ensures.exact

pub returns-in-Some-clause-offset : goal.returns-in-Some-clause-offset
returns-in-Some-clause-offset g c =
    subst (λ s. IfSome c.offset_of_suffix.result (λ offset. offset + length s ≡ length c.args.octets.now)) c.in-Some.ensures.wire c.offset_of_suffix.ensures.offset

pub offset_of_suffix-requires-2 : goal.offset_of_suffix-requires-2
offset_of_suffix-requires-2 g c =
    let bs = g.N.NameLabels.labels c.args.base.now in
    let e : take c.put_name-len.result c.put_name-len.new.octets ≡ wire bs = c.put_name-len.ensures.wire in
    record { whole = c.requires; part = subst IsWire (sym e) (name_wire bs (g.met.N.NameLabels.lawful c.args.base.now)) }

pub returns-clause-exact : goal.returns-clause-exact
returns-clause-exact g c =
    let bs = g.N.NameLabels.labels c.args.base.now in
    let e : labels_in (take c.put_name-len.result c.put_name-len.new.octets) ≡ bs = ap labels_in c.put_name-len.ensures.wire ∙ labels_in_wire bs in
    subst (λ ls. IsSome c.offset_of_suffix-2.result ↔ EndsWith (labels_in c.args.octets.now) ls) e c.offset_of_suffix-2.ensures.exact

pub returns-clause-offset : goal.returns-clause-offset
returns-clause-offset g c =
    subst (λ s. IfSome c.offset_of_suffix-2.result (λ offset. offset + length s ≡ length c.args.octets.now)) c.put_name-len.ensures.wire c.offset_of_suffix-2.ensures.offset
