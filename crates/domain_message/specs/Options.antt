-- Options in octets (RFC 6891, 6.1.2).
use Rattle.std.specs.Prelude.{◌≡◌, ◌⊎◌, ℕ, ◌+◌, ◌<◌, ◌≤◌, List, length, drop, slice_range}
use Rattle.domain_header.specs.Numbers.{number16}

-- The octets begin with an option: its code and its length in 16 bits each, and that many octets of data.
pub record BeginsWithOption (octets : List ℕ) (code : ℕ) (data_octets rest : List ℕ) : Type 0 where
  pub whole : 4 + number16 octets 2 ≤ length octets
  pub code_is : code ≡ number16 octets 0
  pub data_is : data_octets ≡ slice_range octets 4 (4 + number16 octets 2)
  pub rest_is : rest ≡ drop (4 + number16 octets 2) octets

-- They end before their first option does.
abbrev pub EndsInOption : List ℕ → Type 0
EndsInOption octets = (length octets < 4) ⊎ (length octets < 4 + number16 octets 2)

-- The octets are the rest of m from offset p on, and e is their end.
pub record AreAllThatIsLeft (m : List ℕ) (p : ℕ) (octets : List ℕ) (e : ℕ) : Type 0 where
  pub inside : p ≤ length m
  pub all : octets ≡ drop p m
  pub end : e ≡ length m
