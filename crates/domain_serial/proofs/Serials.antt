-- The order of serial numbers turns with its sides.
use Rattle.std.specs.Prelude.{◌≡◌, ℕ, ◌+◌, ◌-◌, ◌%◌, ◌^◌, ◌<◌, Some, None, refl}
use Rattle.std.proofs.Common.{arith}
use Rattle.std.specs.declared.cmp.Ordering.TheVariants.{Less, Equal, Greater}
use Rattle.domain_serial.specs.Serials.{distance, AddedIsLater, TurnsWithItsSides}

ahead_by : (s n : ℕ) → s < 2 ^ 32 → n < 2 ^ 31 → distance s ((s + n) % 2 ^ 32) ≡ n
ahead_by s n below few = omega arith

-- with the sides swapped it is what is left of all numbers
swapped : (a b : ℕ) → a < 2 ^ 32 → b < 2 ^ 32 → distance b a ≡ (2 ^ 32 - distance a b) % 2 ^ 32
swapped a b below also = omega arith

pub added_is_later : AddedIsLater
added_is_later s n o below some few order =
    let e = ahead_by s n below few in order.less.1 (omega arith, omega arith)

pub turns_with_its_sides : TurnsWithItsSides
turns_with_its_sides a b (Some Less) p below also order other =
    let d = order.less.0 refl in let e = swapped a b below also in other.greater.1 (omega arith)
turns_with_its_sides a b (Some Equal) p below also order other =
    let d = order.equal.0 refl in let e = swapped a b below also in other.equal.1 (omega arith)
turns_with_its_sides a b (Some Greater) p below also order other =
    let d = order.greater.0 refl in let e = swapped a b below also in other.less.1 (omega arith, omega arith)
turns_with_its_sides a b None p below also order other =
    let d = order.none.0 refl in let e = swapped a b below also in other.none.1 (omega arith)
