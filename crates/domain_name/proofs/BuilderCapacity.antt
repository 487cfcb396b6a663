-- How much room a builder has.
use Rattle.std.proofs.Common.{◌≡◌, ℕ, ◌≤◌, Option, Some, None, IfSome, arith}
use Rattle.domain_builder.specs.Inside.{Held, room}

-- at least as much as the octets that it goes on from
pub no_less_room : (limit : Option ℕ) (held : Held) (before capacity : ℕ) → before ≤ capacity → held.capacity ≡ capacity → IfSome limit (λ n. capacity ≡ n) → before ≤ room limit held
no_less_room None held before capacity h e f = omega (arith, h, e)
no_less_room (Some n) held before capacity h e f = omega (arith, h, f)
