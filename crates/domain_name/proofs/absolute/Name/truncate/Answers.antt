use Rattle.std.proofs.Common.{◌≡◌, ◌++◌, ℕ, List, length, take, sym, subst, ap, ◌∙◌}
use Rattle.domain_label.specs.Wire.{wire, labels_in}
use Rattle.domain_flat.proofs.Splits.{absolute_parts}
use Rattle.domain_name.specs.Names.{name_labels}
use Rattle.domain_name.proofs.absolute.Name.truncate.Goals as goal

pub from_wire-requires : goal.from_wire-requires
from_wire-requires g c =
    let p = absolute_parts _ c.args.len c.args.self.absolute c.requires in
    rw (c.truncate.ensures.octets, c.into_octets-octets.ensures) p.front

pub returns-clause-parts : goal.returns-clause-parts
returns-clause-parts g c =
    let p = absolute_parts _ c.args.len c.args.self.absolute c.requires in
    let e = ap g.Octs.Octets.octets c.from_wire.ensures ∙ (c.truncate.ensures.octets ∙ ap (λ x. take c.args.len (g.Octs.Octets.octets x)) c.into_octets-octets.ensures) in
    let P : List ℕ → Type 0 = λ o. (x : List (List ℕ)) × (name_labels c.args.self ≡ labels_in o ++ x) in
    subst P (sym e) (_, sym p.parts)

pub returns-clause-offset : goal.returns-clause-offset
returns-clause-offset g c =
    let p = absolute_parts _ c.args.len c.args.self.absolute c.requires in
    let e = ap g.Octs.Octets.octets c.from_wire.ensures ∙ (c.truncate.ensures.octets ∙ ap (λ x. take c.args.len (g.Octs.Octets.octets x)) c.into_octets-octets.ensures) in
    let P : List ℕ → Type 0 = λ o. length (wire (labels_in o)) ≡ c.args.len in
    subst P (sym e) p.offset
