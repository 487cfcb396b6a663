-- What generic code over builders of a fixed limit rests on.
use Rattle.std.specs.Prelude.{ℕ, ◌≡◌, ◌≤◌, ◌<◌, Option, Some, None, Result, Ok, Err, IsOk, OnErr, IfSome, refl}
use Rattle.std.proofs.Common.{arith}

-- what is refused only where the capacity is too small is taken where the fixed limit allows it
pub taken_within_limit : {A B : Type 0} (limit : Option ℕ) (capacity size : ℕ) (answer : Result A B)
    → IfSome limit (λ n. capacity ≡ n)
    → OnErr answer (capacity < size)
    → IfSome limit (λ n. size ≤ n → IsOk answer)
taken_within_limit None capacity size answer fixed full = tt
taken_within_limit (Some n) capacity size (Ok a) fixed full = λ _. refl
taken_within_limit (Some n) capacity size (Err e) fixed full = λ fits. absurd (omega arith)
