-- The names under which addresses are looked up.
use Rattle.std.specs.Prelude.{ℕ, ◌/◌, ◌%◌, List, [], ◌∷◌, ◌++◌, map, reverse, true, codes}
use Rattle.std.specs.Fmt.{decimal, digit_glyph}
use Rattle.std.specs.List.{flat_map}
use Rattle.domain_wire.specs.Addresses.{ipv4_octets, ipv6_octets}
use Rattle.domain_wire.specs.declared.net.IpAddr.{IpAddr}
use Rattle.domain_wire.specs.declared.net.IpAddr.TheVariants.{V4, V6}
use Rattle.domain_label.specs.Wire.{Root}

-- Each octet in decimal, the last first, under in-addr.arpa (RFC 1035, 3.5).
abbrev pub ipv4_name : List ℕ → List (List ℕ)
ipv4_name octets = map decimal (reverse octets) ++ codes "in-addr" ∷ codes "arpa" ∷ Root

-- The lowest four bits of an octet as one upper case digit.
abbrev pub hex_label : ℕ → List ℕ
hex_label c = digit_glyph true (c % 16) ∷ []

-- The lowest four bits of an octet and the highest as upper case digits.
abbrev pub nibbles : ℕ → List (List ℕ)
nibbles c = hex_label c ∷ hex_label (c / 16) ∷ []

-- Four bits of each octet after another, the last first, under ip6.arpa (RFC 3596, 2.5).
abbrev pub ipv6_name : List ℕ → List (List ℕ)
ipv6_name octets = flat_map nibbles (reverse octets) ++ codes "ip6" ∷ codes "arpa" ∷ Root

-- The name under which an address is looked up.
abbrev pub reverse_name : IpAddr → List (List ℕ)
reverse_name (V4 addr) = ipv4_name (ipv4_octets addr)
reverse_name (V6 addr) = ipv6_name (ipv6_octets addr)
