use Rattle.std.proofs.Common.{◌≡◌, length, sym, ap, ◌∙◌, rules}
use Rattle.domain_wire.specs.Addresses.{ipv4_octets}
use Rattle.domain_fields.proofs.Ordering.{as_many_followed}
use Rattle.domain_fields.proofs.order.Ipv4AddrOrderedField.canonical_field_cmp.Goals as goal

pub returns-clause-followed : goal.returns-clause-followed
returns-clause-followed c =
    let one : length c.octets.result ≡ 4 = search rules in
    let other : length c.octets-2.result ≡ 4 = search rules in
    let same : length (ipv4_octets c.args.self.now) ≡ length (ipv4_octets c.args.other.now) = ap length (sym c.octets.ensures) ∙ (one ∙ (sym other ∙ ap length c.octets-2.ensures)) in
    as_many_followed (ipv4_octets c.args.self.now) (ipv4_octets c.args.other.now) _ (search rules) same
