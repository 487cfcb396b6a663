-- Values that are lists, as text (RFC 9460, 7, 8 and A.1).
use denote.Bor.{Bor}
use Rattle.std.specs.Prelude.{◌≡◌, ℕ, zero, suc, ◌+◌, ◌*◌, ◌/◌, ◌%◌, cond, nat_lt, nat_le, nat_eq, Bool, true, false, ◌==◌, ◌||◌, ◌&&◌, List, [], ◌∷◌, ◌++◌, length, drop, take, codes, Option, MatchOption}
use Rattle.std.specs.Fmt.{decimal}
use Rattle.std.specs.List.{flat_map}
use Rattle.std.specs.Net.Addr.{segments_of}
use Rattle.std.specs.Net.Text.{ipv4_text, ipv6_text}
use Rattle.domain_strings.specs.Quoted.{quoted_octet}
use Rattle.domain_svcb.specs.declared.list.ListKind.{ListKind}
use Rattle.domain_svcb.specs.declared.list.ListKind.TheVariants.{Keys, Protocols, Ipv4Hints, Ipv6Hints}

-- the mnemonic of a key (RFC 9460, 14.3.2; RFC 9461, 5; RFC 9540, 4), or the word key and the number
abbrev pub key_text : ℕ → List ℕ
key_text key =
    cond (nat_eq key 0) (codes "mandatory")
    (cond (nat_eq key 1) (codes "alpn")
    (cond (nat_eq key 2) (codes "no-default-alpn")
    (cond (nat_eq key 3) (codes "port")
    (cond (nat_eq key 4) (codes "ipv4hint")
    (cond (nat_eq key 5) (codes "ech")
    (cond (nat_eq key 6) (codes "ipv6hint")
    (cond (nat_eq key 7) (codes "dohpath")
    (cond (nat_eq key 8) (codes "ohttp") (codes "key" ++ decimal key)))))))))

-- An octet of an item: a comma and a backslash take a backslash (A.1), and what comes of it is escaped as it is
-- between quotes.
abbrev pub item_octet : ℕ → List ℕ
item_octet c = cond (c == 44 || c == 92) (quoted_octet 92 ++ quoted_octet c) (quoted_octet c)

-- each key, of two octets
abbrev pub key_texts : List ℕ → List (List ℕ)
key_texts [] = []
key_texts (a ∷ []) = []
key_texts (a ∷ b ∷ o) = key_text (a * 256 + b) ∷ key_texts o

-- each protocol, of as many octets as the octet before it tells; at most n of them
abbrev pub protocol_texts : ℕ → List ℕ → List (List ℕ)
protocol_texts zero o = []
protocol_texts (suc n) [] = []
protocol_texts (suc n) (c ∷ o) = cond (nat_lt (length o) c) [] (flat_map item_octet (take c o) ∷ protocol_texts n (drop c o))

-- each address of `size` octets; at most n of them
abbrev pub address_texts : ℕ → (List ℕ → List ℕ) → ℕ → List ℕ → List (List ℕ)
address_texts size text zero o = []
address_texts size text (suc n) o = cond (nat_lt (length o) size) [] (text (take size o) ∷ address_texts size text n (drop size o))

-- the text of an address of IPv6, of its octets
abbrev pub ipv6_octets_text : List ℕ → List ℕ
ipv6_octets_text o = ipv6_text (segments_of o)

-- the items of a list
abbrev pub item_texts : ListKind → List ℕ → List (List ℕ)
item_texts Keys o = key_texts o
item_texts Protocols o = protocol_texts (length o) o
item_texts Ipv4Hints o = address_texts 4 ipv4_text (length o) o
item_texts Ipv6Hints o = address_texts 16 ipv6_octets_text (length o) o

-- What octets are as items of a list, whose texts `texts` tells: none, or a first one and the octets after it.
abbrev pub TakesFirst : {A : Type 0} → (List ℕ → List (List ℕ)) → (A → List ℕ) → List ℕ → Option (A × Bor (List ℕ)) → Type 0
TakesFirst texts text o taken = MatchOption taken (texts o ≡ []) (λ it. texts o ≡ text it.0 ∷ texts it.1.now)

-- a comma, and an item
abbrev pub after_comma : List ℕ → List ℕ
after_comma t = 44 ∷ t

-- items with a comma between two
abbrev pub with_commas : List (List ℕ) → List ℕ
with_commas [] = []
with_commas (t ∷ ts) = t ++ flat_map after_comma ts

-- whether keys of two octets each strictly ascend from `least` on
abbrev pub keys_ascend : ℕ → List ℕ → Bool
keys_ascend least [] = true
keys_ascend least (a ∷ []) = false
keys_ascend least (a ∷ b ∷ o) = cond (nat_lt (a * 256 + b) least) false (keys_ascend (a * 256 + b + 1) o)

-- whether octets are protocols of one octet or more, each after an octet that states its length; at most n of them
abbrev pub protocols_fit : ℕ → List ℕ → Bool
protocols_fit n [] = true
protocols_fit zero (c ∷ o) = false
protocols_fit (suc n) (c ∷ o) = cond (nat_lt c 1 || nat_lt (length o) c) false (protocols_fit n (drop c o))

-- Whether a value is a list as its key wants it, of one item or more: keys that strictly ascend, without mandatory
-- itself (RFC 9460, 8); protocols of one octet or more (7.1.1); whole addresses (7.3).
abbrev pub is_list : ListKind → List ℕ → Bool
is_list Keys o = nat_lt 0 (length o) && keys_ascend 1 o
is_list Protocols o = nat_lt 0 (length o) && protocols_fit (length o) o
is_list Ipv4Hints o = nat_lt 0 (length o) && (length o % 4 == 0)
is_list Ipv6Hints o = nat_lt 0 (length o) && (length o % 16 == 0)
