-- One label more, at either end.
use Rattle.std.proofs.Common.{◌≡◌, ℕ, List, [], ◌∷◌, ◌++◌, length, reverse, refl, ap, ◌∙◌, arith}
use Rattle.std.proofs.lemmas.List.{reverse-append, map-append}
use Rattle.std.specs.Ordering.{nat_cmp, ordering_then}
use Rattle.std.specs.declared.cmp.Ordering.{Ordering}
use Rattle.std.specs.declared.cmp.Ordering.TheVariants.{Less, Equal, Greater}
use Rattle.std.specs.Cmp.Lexicographic.{slice_cmp}
use Rattle.std.specs.FinSet.{nat_cmp-IsAntisymmetric}
use Rattle.domain_label.specs.Lowercase.{lowercase, lowercase_labels, label_composed_order}
use Rattle.domain_label.specs.Wire.{wire}
use Rattle.domain_list.specs.Order.{from_right, composed_order}

-- the last label comes first from the right
pub from_right_last : (xs : List (List ℕ)) (x : List ℕ) → from_right (xs ++ x ∷ []) ≡ lowercase x ∷ from_right xs
from_right_last xs x = ap reverse (map-append lowercase xs (x ∷ [])) ∙ reverse-append (lowercase_labels xs) (lowercase x ∷ [])

then_twice : (p q r : Ordering) → ordering_then p (ordering_then q r) ≡ ordering_then (ordering_then p q) r
then_twice Less q r = refl
then_twice Equal q r = refl
then_twice Greater q r = refl

-- lists of one length decide first
cmp-append : (x y a b : List ℕ) → length x ≡ length y → slice_cmp nat_cmp (x ++ a) (y ++ b) ≡ ordering_then (slice_cmp nat_cmp x y) (slice_cmp nat_cmp a b)
cmp-append [] [] a b e = refl
cmp-append [] (y ∷ ys) a b e = absurd (omega (arith, e))
cmp-append (x ∷ xs) [] a b e = absurd (omega (arith, e))
cmp-append (x ∷ xs) (y ∷ ys) a b e =
    ap (ordering_then (nat_cmp x y)) (cmp-append xs ys a b (omega (arith, e))) ∙ then_twice (nat_cmp x y) (slice_cmp nat_cmp xs ys) (slice_cmp nat_cmp a b)

tied : (o p q r : Ordering) → (o ≡ Equal → p ≡ ordering_then q r) → ordering_then o p ≡ ordering_then (ordering_then o q) r
tied Less p q r h = refl
tied Equal p q r h = h refl
tied Greater p q r h = refl

-- the first labels decide, and else the others
pub composed_more : (x y : List ℕ) (xs ys : List (List ℕ)) → composed_order (x ∷ xs) (y ∷ ys) ≡ ordering_then (label_composed_order x y) (composed_order xs ys)
composed_more x y xs ys =
    tied (nat_cmp (length x) (length y)) _ _ _ (λ e. cmp-append x y (wire xs) (wire ys) (nat_cmp-IsAntisymmetric (length x) (length y) e))

pub ruleset composed_steps = (composed_more)
