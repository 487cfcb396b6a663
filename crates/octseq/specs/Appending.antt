-- What becomes of a target where octets are appended to it, and why they aren't. `g` is `Target.Octets`, what the
-- target's type says of its octets.
use Rattle.std.specs.Prelude.{◌≡◌, ℕ, ◌+◌, ◌<◌, List, ◌++◌, length}
use Rattle.octseq.specs.declared.octets.Octets.{Ghosts}

-- The target grew by these octets.
abbrev pub GrowsBy : {T : Type 0} → Ghosts T → T → List ℕ → T → Type 0
GrowsBy g old octets new = g.octets new ≡ g.octets old ++ octets

-- Fewer than n octets of its capacity are spare.
abbrev pub LacksSpare : {T : Type 0} → Ghosts T → T → ℕ → Type 0
LacksSpare g target n = g.capacity target < length (g.octets target) + n

-- It is too full for these octets: they exceed its spare capacity.
abbrev pub TooFull : {T : Type 0} → Ghosts T → T → List ℕ → Type 0
TooFull g target octets = LacksSpare g target (length octets)
