-- Octets that were put into a buffer.
use Rattle.std.specs.Prelude.{◌≡◌, ℕ, ◌+◌, ◌<◌, ◌≤◌, Bool, List, ◌++◌, length, take, drop, MatchBool}

-- The octets are in the buffer from p on, and what was before and after them is unchanged.
abbrev pub PutsAt : ℕ → List ℕ → List ℕ → List ℕ → Type 0
PutsAt p octets old new = new ≡ take p old ++ octets ++ drop (p + length octets) old

-- The octets were put into the buffer from p on, or don't fit, and it is unchanged.
abbrev pub PutsIfRoom : (told : Bool) → ℕ → List ℕ → List ℕ → List ℕ → Type 0
PutsIfRoom told p octets old new =
    MatchBool told ((p + length octets ≤ length old) × PutsAt p octets old new)
    ((length old < p + length octets) × (new ≡ old))
