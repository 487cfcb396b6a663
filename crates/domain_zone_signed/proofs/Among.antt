-- Which names a search has passed.
use Rattle.std.proofs.Common.{ℕ, List}
use Rattle.domain_zone_signed.specs.AliasChains.{IsAmong}

-- The name is among all exactly where it is among the rest.
abbrev pub SameAmong : List (List (List ℕ)) → List (List (List ℕ)) → List (List ℕ) → Type 0
SameAmong all rest n = (IsAmong all n → IsAmong rest n) × (IsAmong rest n → IsAmong all n)
