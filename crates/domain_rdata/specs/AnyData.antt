-- Record data of any type, as its octets (RFC 3597).
use Rattle.std.specs.Prelude.{◌≡◌, ◌∷◌, [], ℕ, ◌<◌, ◌≤◌, ◌/◌, ◌%◌, List, ◌++◌, length, drop, codes}
use Rattle.std.specs.Fmt.{decimal}
use Rattle.std.specs.List.{flat_map}
use Rattle.domain_label.specs.Hex.{hex_digit}
use Rattle.domain_wire.specs.declared.error.ParseError.{ParseError}
use Rattle.domain_wire.specs.Refusals.{refusal, form}

-- a space and two digits for each octet
abbrev pub spaced_octet : ℕ → List ℕ
spaced_octet n = 32 ∷ hex_digit (n / 16) ∷ hex_digit (n % 16) ∷ []

-- The text of data of an unknown type: a backslash and a number sign, the number of octets, and each
-- octet (RFC 3597, 5).
abbrev pub unknown_text : List ℕ → List ℕ
unknown_text octets = codes "\\# " ++ decimal (length octets) ++ flat_map spaced_octet octets

-- The data at an offset is all octets remaining there.
pub record IsAllThatIsLeft (m : List ℕ) (p : ℕ) (octets : List ℕ) (e : ℕ) : Type 0 where
  pub inside : p ≤ length m
  pub all : octets ≡ drop p m
  pub few : length octets ≤ 65535
  pub after : e ≡ length m

-- More is left than a length of 16 bits tells.
pub record TooMuchIsLeft (m : List ℕ) (p : ℕ) (why : ParseError) : Type 0 where
  pub many : 65535 < length (drop p m)
  pub told : refusal why ≡ form (codes "record data too long")
