-- Octets that are appended under a limit.
use Rattle.std.specs.Prelude.{ℕ, ◌+◌, ◌<◌, ◌≤◌, List, length, Option, IfSome}
use Rattle.domain_label.specs.Wire.{wire}

-- Where the octets and then a name fit the limit.
abbrev pub IfFits : (limit : Option ℕ) → List ℕ → (name : List (List ℕ)) → Type 0 → Type 0
IfFits limit octets name P = IfSome limit (λ n. length octets + length (wire name) ≤ n → P)

-- Where the octets and then a name pass the limit.
abbrev pub IfPasses : (limit : Option ℕ) → List ℕ → (name : List (List ℕ)) → Type 0 → Type 0
IfPasses limit octets name P = IfSome limit (λ n. n < length octets + length (wire name) → P)
