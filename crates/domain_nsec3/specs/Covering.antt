-- What NSEC3 records match and cover (RFC 5155, 1.3 and 3.1.7).
use Rattle.std.specs.Prelude.{◌≡◌, ◌⊎◌, ℕ, List}
use Rattle.std.specs.Cmp.Lexicographic.{slice_cmp}
use Rattle.std.specs.Ordering.{nat_cmp}
use Rattle.std.specs.declared.cmp.Ordering.TheVariants.{Less}

-- Hash order: hashes are compared as octets from the left (RFC 4034, 6.1).
abbrev pub HashPrecedes : List ℕ → List ℕ → Type 0
HashPrecedes a b = slice_cmp nat_cmp a b ≡ Less

-- A record whose owner has this hash matches x.
abbrev pub MatchesHash : List ℕ → List ℕ → Type 0
MatchesHash owner x = x ≡ owner

-- A record whose owner has this hash, and which has this next hashed owner name, covers x: x is between the two. The
-- next one of the last record in hash order is the first, which isn't after it. It covers all after itself, and all
-- before the first. So a record alone covers all except its own hash.
abbrev pub CoversHash : List ℕ → List ℕ → List ℕ → Type 0
CoversHash owner next x =
    (HashPrecedes owner next × HashPrecedes owner x × HashPrecedes x next)
    ⊎ ((HashPrecedes owner next → ⊥) × (HashPrecedes owner x ⊎ HashPrecedes x next))
