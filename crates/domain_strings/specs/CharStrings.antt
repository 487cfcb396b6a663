-- Character strings in a message (RFC 1035, 3.3).
use Rattle.std.specs.Prelude.{◌≡◌, ℕ, ◌+◌, ◌<◌, ◌≤◌, List, ◌∷◌, ◌++◌, length, drop, get_or}
use Rattle.domain_wire.specs.declared.error.ParseError.{ParseError}
use Rattle.domain_wire.specs.declared.error.ParseError.TheVariants.{ShortInput}

-- one octet that states the length of the string, and that many octets
abbrev pub counted : List ℕ → List ℕ
counted s = length s ∷ s

-- The octets of m at offset p begin with the string s, and e is its end.
pub record CharStringAt (m : List ℕ) (p : ℕ) (s : List ℕ) (e : ℕ) : Type 0 where
  pub short : length s ≤ 255
  pub rest : List ℕ
  pub parts : drop p m ≡ counted s ++ rest
  pub end : e ≡ p + length (counted s)

-- No octet is left at offset p, or fewer after it than it tells.
pub record NoCharString (m : List ℕ) (p : ℕ) (why : ParseError) : Type 0 where
  pub cut : length (drop p m) < 1 + get_or (drop p m) 0 0
  pub told : why ≡ ShortInput
