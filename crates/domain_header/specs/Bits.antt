-- Fields of bits in an octet. A field is given by the weight of its lowest bit and the number of its values: two for
-- one bit, 16 for four.
use Rattle.std.specs.Prelude.{◌≡◌, ℕ, ◌*◌, ◌/◌, ◌%◌, Bool, cond}

-- what the field says
abbrev pub bits : ℕ → ℕ → ℕ → ℕ
bits weight values octet = octet / weight % values

-- the bit of this weight
abbrev pub bit : ℕ → ℕ → ℕ
bit weight octet = bits weight 2 octet

-- the bit that says so
abbrev pub bit_of : Bool → ℕ
bit_of on = cond on 1 0

-- The field says `value` in the new octet, and the bits below and above it are those of the old one.
pub record SetsBits (weight values value old new : ℕ) : Type 0 where
  pub set : bits weight values new ≡ value
  pub below : new % weight ≡ old % weight
  pub above : new / (weight * values) ≡ old / (weight * values)
