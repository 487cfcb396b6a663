-- What contracts see of an item of a list: its text.
use Rattle.std.specs.Prelude.{ℕ, List}
use denote.Bor.{Bor}
use Rattle.std.specs.List.{flat_map}
use Rattle.std.specs.Net.Text.{ipv4_text}
use Rattle.domain_svcb.specs.Lists.{key_text, item_octet, ipv6_octets_text}
use Rattle.domain_svcb.specs.declared.list.Item.{Item}
use Rattle.domain_svcb.specs.declared.list.Item.TheVariants.{Key, Protocol, Ipv4, Ipv6}

-- the text of a protocol
abbrev pub protocol_text : Bor (List ℕ) → List ℕ
protocol_text octets = flat_map item_octet octets.now

-- the text of an item
abbrev pub item_text : Item → List ℕ
item_text (Key n) = key_text n
item_text (Protocol octets) = protocol_text octets
item_text (Ipv4 octets) = ipv4_text octets
item_text (Ipv6 octets) = ipv6_octets_text octets
