-- Octets without case.
use Rattle.std.proofs.Common.{◌≡◌, ℕ, ◌≤◌, List, [], ◌∷◌, length, refl, arith}
use Rattle.std.specs.declared.cmp.Ordering.TheVariants.{Greater}
use Rattle.domain_label.specs.Lowercase.{cmp_ignoring_case}

-- a list that goes on is greater than one that is at its end
pub cmp_ignoring_case-more : (a b : List ℕ) → 1 ≤ length a → length b ≡ 0 → cmp_ignoring_case a b ≡ Greater
cmp_ignoring_case-more [] b h e = absurd (omega (arith, h))
cmp_ignoring_case-more (x ∷ a) [] h e = refl
cmp_ignoring_case-more (x ∷ a) (y ∷ b) h e = absurd (omega (arith, e))
