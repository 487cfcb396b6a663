-- What contracts see of an address: its octets, in the order in which they are sent.
use Rattle.std.specs.Prelude.{◌≡◌, ℕ, ◌++◌, List, length, take, replicate}
use Rattle.std.specs.Int.{w16, to_be_bytes}
use Rattle.std.specs.List.{flat_map}
use Rattle.std.proofs.Common.{arith}
use Rattle.std.proofs.lemmas.Grind.{common_steps}
use Rattle.domain_wire.specs.declared.net.Ipv4Addr.{Ipv4Addr}
use Rattle.domain_wire.specs.declared.net.Ipv6Addr.{Ipv6Addr}

-- exactly n octets: those of an array that has n. So their number is known of any list.
abbrev pub exactly : ℕ → List ℕ → List ℕ
exactly n octets = take n (octets ++ replicate n 0)

pub exactly_len : (n : ℕ) (octets : List ℕ) → length (exactly n octets) ≡ n
exactly_len n octets = grind (arith, common_steps)

pub exactly_whole : (n : ℕ) (octets : List ℕ) → length octets ≡ n → exactly n octets ≡ octets
exactly_whole n octets has = grind (arith, common_steps)

-- the four octets of an IPv4 address (RFC 1035, 3.4.1)
abbrev pub ipv4_octets : Ipv4Addr → List ℕ
ipv4_octets addr = exactly 4 addr.octets

-- the address of four octets
abbrev pub ipv4_of : List ℕ → Ipv4Addr
ipv4_of octets = record { octets = octets }

-- the sixteen octets of an IPv6 address (RFC 3596, 2.2)
abbrev pub ipv6_octets : Ipv6Addr → List ℕ
ipv6_octets addr = exactly 16 addr.octets

-- the address of sixteen octets
abbrev pub ipv6_of : List ℕ → Ipv6Addr
ipv6_of octets = record { octets = octets }

-- the address of eight segments of 16 bits
abbrev pub ipv6_of_segments : List ℕ → Ipv6Addr
ipv6_of_segments segments = ipv6_of (flat_map (to_be_bytes w16) segments)
