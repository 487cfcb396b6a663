-- Serial numbers: 32 bits that count on from 2^32 - 1 to 0 (RFC 1982, 3).
use Rattle.std.specs.Prelude.{◌≡◌, ℕ, ◌+◌, ◌-◌, ◌%◌, ◌^◌, ◌<◌, ◌≤◌, ◌↔◌, List, Option, Some, None}
use Rattle.std.specs.Int.{w32, from_be_bytes}
use Rattle.std.specs.Option.{option_map}
use Rattle.std.specs.Ordering.{ordering_reverse}
use Rattle.std.specs.declared.cmp.Ordering.{Ordering}
use Rattle.domain_wire.specs.Values.{FixedAt}
use Rattle.std.specs.declared.cmp.Ordering.TheVariants.{Less, Equal, Greater}

-- A number of 32 bits is at the first offset, the high octet first, and the second is the offset after it.
abbrev pub NumberAt : List ℕ → ℕ → ℕ → ℕ → Type 0
NumberAt = FixedAt 4 (from_be_bytes w32)

-- how far the second number is ahead of the first
abbrev pub distance : ℕ → ℕ → ℕ
distance a b = (b + (2 ^ 32 - a)) % 2 ^ 32

-- The order of two numbers by how far the second is ahead (RFC 1982, 3.2): the first is less where
-- that is under half of all numbers, greater where it is more, and at the half there is no order.
pub record IsSerialOrder (ahead : ℕ) (o : Option Ordering) : Type 0 where
  pub equal : (o ≡ Some Equal) ↔ (ahead ≡ 0)
  pub less : (o ≡ Some Less) ↔ (1 ≤ ahead) × (ahead < 2 ^ 31)
  pub none : (o ≡ None) ↔ (ahead ≡ 2 ^ 31)
  pub greater : (o ≡ Some Greater) ↔ (2 ^ 31 < ahead)

-- a number that is reached by adding is later
abbrev pub AddedIsLater : Type 0
AddedIsLater = (s n : ℕ) (o : Option Ordering) → s < 2 ^ 32 → 1 ≤ n → n < 2 ^ 31
    → IsSerialOrder (distance s ((s + n) % 2 ^ 32)) o → o ≡ Some Less

-- with the sides swapped the order is turned round, and none stays none
abbrev pub TurnsWithItsSides : Type 0
TurnsWithItsSides = (a b : ℕ) (o p : Option Ordering) → a < 2 ^ 32 → b < 2 ^ 32
    → IsSerialOrder (distance a b) o → IsSerialOrder (distance b a) p → p ≡ option_map ordering_reverse o
