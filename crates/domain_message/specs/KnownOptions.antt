-- What the data of options says whose codes are known.
use Rattle.std.specs.Prelude.{if◌then◌else◌, ◌≡◌, ◌≢◌, ◌⊎◌, ℕ, nat_eq, ◌+◌, ◌-◌, ◌*◌, ◌/◌, ◌%◌, ◌^◌, ◌<◌, ◌≤◌, List, [], ◌∷◌, ◌++◌, length, take, drop, slice_index, codes, Option, Some, None}
use Rattle.std.specs.List.{flat_map}
use Rattle.domain_label.specs.Hex.{hex_digit}
use Rattle.domain_header.specs.Numbers.{number16}
use Rattle.domain_wire.specs.Refusals.{Refusal, refusal}
use Rattle.domain_wire.specs.Refusals.Refusal.{short_input, form}
use Rattle.domain_wire.specs.declared.error.ParseError.{ParseError}

-- An option of this code says it; or it is of another code, and there is nothing.
abbrev pub OfCode : {A : Type 0} → ℕ → ℕ → (A → Type 0) → Option A → Type 0
OfCode wanted code Says None = code ≢ wanted
OfCode wanted code Says (Some it) = (code ≡ wanted) × Says it

-- two hexadecimal digits, the high one first
abbrev pub octet_digits : ℕ → List ℕ
octet_digits n = hex_digit (n / 16) ∷ hex_digit (n % 16) ∷ []

-- A name server's identifier is shown by the digits of each octet (RFC 5001, 2.4).
abbrev pub nsid_text : List ℕ → List ℕ
nsid_text octets = flat_map octet_digits octets

-- The octets are an extended error: its code in 16 bits, and its text (RFC 8914, 2).
pub record IsExtendedError (octets : List ℕ) (info_code : ℕ) (text : List ℕ) : Type 0 where
  pub whole : 2 ≤ length octets
  pub code_is : info_code ≡ number16 octets 0
  pub text_is : text ≡ drop 2 octets

-- The octets are a client's cookie of 8 octets, and after it nothing or a server's cookie of 8 to 32 octets (RFC 7873,
-- 4).
abbrev pub IsCookie : {S : Type 0} → (S → List ℕ) → List ℕ → List ℕ → Option S → Type 0
IsCookie octets_of octets client None = (length client ≡ 8) × (octets ≡ client)
IsCookie octets_of octets client (Some server) = (length client ≡ 8) × (8 ≤ length (octets_of server)) × (length (octets_of server) ≤ 32) × (octets ≡ client ++ octets_of server)

-- `n` octets are no cookies: they end inside the client's, or the server's would have an invalid number of octets.
pub data IsCookieFault (n : ℕ) (why : Refusal) : Type 0 where
  short : n < 8 → why ≡ short_input → IsCookieFault n why
  server : 8 < n → (n < 16) ⊎ (40 < n) → why ≡ form (codes "server cookie of a wrong length") → IsCookieFault n why

-- The client's cookie has 8 octets, and the server's, if there is one, 8 to 32.
abbrev pub HaveLengths : {S : Type 0} → (S → List ℕ) → List ℕ → Option S → Type 0
HaveLengths octets_of client None = length client ≡ 8
HaveLengths octets_of client (Some it) = (length client ≡ 8) × (8 ≤ length (octets_of it)) × (length (octets_of it) ≤ 32)

-- The client's cookie has another length, or else the server's has.
pub data IsLengthFault {S : Type 0} (octets_of : S → List ℕ) (client : List ℕ) (server : Option S) (why : Refusal) : Type 0 where
  first : length client ≢ 8 → why ≡ form (codes "client cookie of a wrong length") → IsLengthFault octets_of client server why
  second : (it : S) → server ≡ Some it → length client ≡ 8 → (length (octets_of it) < 8) ⊎ (32 < length (octets_of it)) → why ≡ form (codes "server cookie of a wrong length") → IsLengthFault octets_of client server why

-- how many octets have so many bits of an address
abbrev pub octets_of_prefix : ℕ → ℕ
octets_of_prefix bits = (bits + 7) / 8

-- how many bits the addresses of a family have: 0 where no address is encoded, 32 for IPv4, and 128 for IPv6 (RFC
-- 7871, 6)
abbrev pub family_bits : ℕ → Option ℕ
family_bits family = if nat_eq family 0 then Some 0 else (if nat_eq family 1 then Some 32 else (if nat_eq family 2 then Some 128 else None))

-- The bits of an address after its first ones, in the last octet of these, are zero.
abbrev pub EndsInZeros : List ℕ → ℕ → Type 0
EndsInZeros address bits = bits % 8 ≢ 0 → slice_index address (bits / 8) % 2 ^ (8 - bits % 8) ≡ 0

-- So many bits of an address of this family can be told.
abbrev pub IsPrefix : ℕ → ℕ → Type 0
IsPrefix family source = (most : ℕ) × (family_bits family ≡ Some most) × (source ≤ most)

-- The octets are so many bits of an address: as few as have them, which end in zeros.
abbrev pub IsAddress : ℕ → List ℕ → Type 0
IsAddress source address = (length address ≡ octets_of_prefix source) × EndsInZeros address source

-- The octets are a client's subnet: the family of its address, how many bits of it are encoded, for how many an answer
-- is meant, and the encoded bits (RFC 7871, 6).
pub record IsClientSubnet (octets : List ℕ) (family source scope : ℕ) (address : List ℕ) : Type 0 where
  pub whole : 4 ≤ length octets
  pub family_is : family ≡ number16 octets 0
  pub source_is : source ≡ slice_index octets 2
  pub scope_is : scope ≡ slice_index octets 3
  pub address_is : address ≡ drop 4 octets
  pub prefix : IsPrefix family source
  pub bits : IsAddress source address

-- Why so many bits of an address of this family can't be told: the family is another one, or its addresses have fewer.
pub data IsPrefixFault (family source : ℕ) (why : Refusal) : Type 0 where
  unknown : family_bits family ≡ None → why ≡ form (codes "unknown family of addresses") → IsPrefixFault family source why
  long : (most : ℕ) → family_bits family ≡ Some most → most < source → why ≡ form (codes "prefix longer than an address") → IsPrefixFault family source why

-- Why octets aren't so many bits of an address: there are fewer or more than have them, or they don't end in zeros.
pub data IsAddressFault (source : ℕ) (address : List ℕ) (why : Refusal) : Type 0 where
  fewer : length address < octets_of_prefix source → why ≡ short_input → IsAddressFault source address why
  more : octets_of_prefix source < length address → why ≡ form (codes "address longer than its prefix") → IsAddressFault source address why
  bits : length address ≡ octets_of_prefix source → (EndsInZeros address source → ⊥) → why ≡ form (codes "address has bits after its prefix") → IsAddressFault source address why

-- the octet of an address that has some of its first bits and others, with these others zero
abbrev pub cut_octet : List ℕ → ℕ → Option ℕ
cut_octet address source = if nat_eq (source % 8) 0 then None else Some (slice_index address (source / 8) / 2 ^ (8 - source % 8) * 2 ^ (8 - source % 8))

-- these octets, and after them one more, if there is one
abbrev pub with_last : List ℕ → Option ℕ → List ℕ
with_last octets None = octets
with_last octets (Some last) = octets ++ last ∷ []

-- the first bits of an address, in as few octets as have them, which end in zeros (RFC 7871, 6)
abbrev pub cut_bits : List ℕ → ℕ → List ℕ
cut_bits address source = with_last (take (source / 8) address) (cut_octet address source)

-- Why an address of this family can't be cut to so many bits: they can't be told of it, or it has fewer.
pub data IsCutFault (family source : ℕ) (address : List ℕ) (why : Refusal) : Type 0 where
  prefix : IsPrefixFault family source why → IsCutFault family source address why
  fewer : IsPrefix family source → length address < octets_of_prefix source → why ≡ short_input → IsCutFault family source address why

-- Why octets are no client's subnet, the first reason in this order.
pub data IsSubnetFault (octets : List ℕ) (why : Refusal) : Type 0 where
  short : length octets < 4 → why ≡ short_input → IsSubnetFault octets why
  prefix : 4 ≤ length octets → IsPrefixFault (number16 octets 0) (slice_index octets 2) why → IsSubnetFault octets why
  address : 4 ≤ length octets → IsPrefix (number16 octets 0) (slice_index octets 2) → IsAddressFault (slice_index octets 2) (drop 4 octets) why → IsSubnetFault octets why

-- An option of this code isn't of its form, for this reason.
abbrev pub FaultOf : ℕ → ℕ → (Refusal → Type 0) → ParseError → Type 0
FaultOf wanted code IsFault e = (code ≡ wanted) × IsFault (refusal e)
