-- The order of character strings that others follow.
use Rattle.std.proofs.Common.{◌≡◌, ℕ, ◌<◌, List, ◌++◌, length, ap, subst, ◌∙◌}
use Rattle.std.specs.Cmp.{ranks}
use Rattle.std.specs.Cmp.Lexicographic.{slice_cmp}
use Rattle.std.specs.Ordering.{MatchOrdering, nat_cmp, ordering_then}
use Rattle.std.specs.declared.cmp.Ordering.{Ordering}
use Rattle.std.specs.declared.cmp.Ordering.TheVariants.{Equal}
use Rattle.domain_fields.proofs.Ordering.{as_many_followed}

-- strings of the same length
pub same_length_followed : (x y : List ℕ) (r : Ordering) → nat_cmp (length x) (length y) ≡ Equal → r ≡ slice_cmp nat_cmp x y → (s t : List ℕ) → ordering_then (nat_cmp (length x) (length y)) (slice_cmp nat_cmp (x ++ s) (y ++ t)) ≡ ordering_then r (slice_cmp nat_cmp s t)
same_length_followed x y r same order s t =
    let sizes : length x ≡ length y = subst (λ o. MatchOrdering o (length x < length y) (length x ≡ length y) (length y < length x)) same (ranks (length x) (length y)) in
    ap (λ o. ordering_then o (slice_cmp nat_cmp (x ++ s) (y ++ t))) same ∙ as_many_followed x y r order sizes s t
