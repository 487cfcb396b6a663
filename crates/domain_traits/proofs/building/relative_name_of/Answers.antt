use Rattle.std.proofs.Common.{sym, subst, ap, ◌∙◌}
use Rattle.domain_label.specs.Wire.{labels_in, IsRelativeWire}
use Rattle.domain_label.proofs.WireLaws.{labels_in_wire, wire_relative}
use Rattle.domain_traits.proofs.building.relative_name_of.Goals as goal

pub from_wire-requires : goal.from_wire-requires
from_wire-requires g c =
    subst IsRelativeWire (sym c.requires.2) (wire_relative c.requires.0 c.requires.1)

pub returns-clause-list : goal.returns-clause-list
returns-clause-list g c ls name e =
    ap (λ o. labels_in (g.Octs.Octets.octets o)) c.from_wire.ensures ∙ (ap labels_in e ∙ labels_in_wire ls)
