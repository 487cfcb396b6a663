use Rattle.std.proofs.Common.{◌≡◌, ◌∷◌, arith, subst, sym}
use Rattle.std.specs.Net.Text.{ipv4_text}
use Rattle.domain_svcb.specs.Lists.{item_texts, ipv6_octets_text}
use Rattle.domain_svcb.proofs.ListItems.{first_address}
use Rattle.domain_svcb.proofs.list.next_item.Goals as goal

pub returns-in_ok-address-in-Ipv4Hints : goal.returns-in_ok-address-in-Ipv4Hints
returns-in_ok-address-in-Ipv4Hints c =
    let o = c.args.octets.now in
    let s = c.in_ok-address-in-Ipv4Hints.address.now in
    let r = c.in_ok-address-in-Ipv4Hints.rest.now in
    let parts = c.in_ok-address-in-Ipv4Hints.ensures.cases in
    subst (λ k. item_texts k o ≡ ipv4_text s ∷ item_texts k r) (sym c.in-Ipv4Hints.is) (first_address 4 ipv4_text o s r (omega arith) (omega (arith, parts.2)) parts.0 parts.1)

pub returns-in_ok-address-in-Ipv6Hints : goal.returns-in_ok-address-in-Ipv6Hints
returns-in_ok-address-in-Ipv6Hints c =
    let o = c.args.octets.now in
    let s = c.in_ok-address-in-Ipv6Hints.address.now in
    let r = c.in_ok-address-in-Ipv6Hints.rest.now in
    let parts = c.in_ok-address-in-Ipv6Hints.ensures.cases in
    subst (λ k. item_texts k o ≡ ipv6_octets_text s ∷ item_texts k r) (sym c.in-Ipv6Hints.is) (first_address 16 ipv6_octets_text o s r (omega arith) (omega (arith, parts.2)) parts.0 parts.1)
