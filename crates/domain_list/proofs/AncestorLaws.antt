-- Why names that end with an ancestor stand together in the order, and why the ancestor is the first of them.
use Rattle.std.specs.Prelude.{◌≡◌, ◌≢◌, ℕ, List, [], ◌∷◌, ◌++◌, reverse, refl}
use Rattle.std.proofs.Common.{sym, ap, ◌∙◌, subst}
use Rattle.std.specs.Ordering.{nat_cmp, ordering_then, ordering_reverse}
use Rattle.std.specs.declared.cmp.Ordering.{Ordering}
use Rattle.std.specs.declared.cmp.Ordering.TheVariants.{Less, Equal, Greater}
use Rattle.std.specs.Cmp.Lexicographic.{slice_cmp}
use Rattle.std.specs.FinSet.{slice_cmp-IsAntisymmetric, nat_cmp-IsAntisymmetric}
use Rattle.std.proofs.lemmas.Cmp.{nat_list_cmp_total}
use Rattle.std.proofs.lemmas.List.{reverse-append, reverse-reverse}
use Rattle.domain_label.specs.Lowercase.{lowercase_labels}
use Rattle.domain_list.specs.Ancestors.{OrderDecidesEquality, DescendantsAreAdjacent, ParentIsFirst}
use Rattle.domain_list.specs.NameLaws.{order_is_total}
use Rattle.domain_list.specs.Order.{canonical_order, from_right}

abbrev by_labels : List (List ℕ) → List (List ℕ) → Ordering
by_labels = slice_cmp (slice_cmp nat_cmp)

itself : (o : Ordering) → o ≡ ordering_reverse o → o ≡ Equal
itself Less e = absurd (less_greater e)
  where
    less_greater : Less ≡ Greater → ⊥
    less_greater e = cc
itself Equal e = refl
itself Greater e = absurd (greater_less e)
  where
    greater_less : Greater ≡ Less → ⊥
    greater_less e = cc

same_label : (k : List ℕ) → slice_cmp nat_cmp k k ≡ Equal
same_label k = itself (slice_cmp nat_cmp k k) (nat_list_cmp_total.antisymm k k)

between_step : (o p q : Ordering) → ordering_then o p ≢ Less → ordering_then o q ≢ Greater → (o ≡ Equal) × ((p ≢ Less) × (q ≢ Greater))
between_step Less p q h k = absurd (h refl)
between_step Equal p q h k = (refl, (h, k))
between_step Greater p q h k = absurd (k refl)

after : (k h : List ℕ) (p ys r : List (List ℕ)) → h ≡ k → ys ≡ p ++ r → h ∷ ys ≡ k ∷ (p ++ r)
after k h p ys r e f = cc

-- between two lists that begin with p, each begins with p
between : (p a y b : List (List ℕ)) → by_labels y (p ++ a) ≢ Less → by_labels y (p ++ b) ≢ Greater → (r : List (List ℕ)) × (y ≡ p ++ r)
between [] a y b h k = (y, refl)
between (l ∷ p) a [] b h k = absurd (h refl)
between (l ∷ p) a (x ∷ y) b h k =
    let s = between_step (slice_cmp nat_cmp x l) (by_labels y (p ++ a)) (by_labels y (p ++ b)) h k in
    let r = between p a y b s.1.0 s.1.1 in
    (r.0, after l x p y r.0 (slice_cmp-IsAntisymmetric nat_cmp-IsAntisymmetric x l s.0) r.1)

less_no_greater : Less ≡ Greater → ⊥
less_no_greater e = cc

equal_no_greater : Equal ≡ Greater → ⊥
equal_no_greater e = cc

-- a beginning is no greater than the list
begins_first : (p a : List (List ℕ)) → by_labels p (p ++ a) ≢ Greater
begins_first [] [] = equal_no_greater
begins_first [] (x ∷ a) = less_no_greater
begins_first (l ∷ p) a = subst (λ o. ordering_then o (by_labels p (p ++ a)) ≢ Greater) (sym (same_label l)) (begins_first p a)

-- an end is a beginning from the right
from_after : (x ancestor front : List (List ℕ)) → lowercase_labels x ≡ front ++ lowercase_labels ancestor → from_right x ≡ from_right ancestor ++ reverse front
from_after x ancestor front e = ap reverse e ∙ reverse-append front (lowercase_labels ancestor)

to_front : (y ancestor r : List (List ℕ)) → from_right y ≡ from_right ancestor ++ r → lowercase_labels y ≡ reverse r ++ lowercase_labels ancestor
to_front y ancestor r e =
    sym (reverse-reverse (lowercase_labels y)) ∙ (ap reverse e ∙ (reverse-append (from_right ancestor) r ∙ ap (λ q. reverse r ++ q) (reverse-reverse (lowercase_labels ancestor))))

pub tells_apart : OrderDecidesEquality
tells_apart a b = (
  λ h. let e : from_right a ≡ from_right b = slice_cmp-IsAntisymmetric (slice_cmp-IsAntisymmetric nat_cmp-IsAntisymmetric) (from_right a) (from_right b) h in
      sym (reverse-reverse (lowercase_labels a)) ∙ (ap reverse e ∙ reverse-reverse (lowercase_labels b)),
  λ e. subst (λ r. by_labels (from_right a) (reverse r) ≡ Equal) e (itself (canonical_order a a) (order_is_total.antisymm a a)),
)

pub keeps_together : DescendantsAreAdjacent
keeps_together ancestor x y z ex ez h k =
    let low : by_labels (from_right y) (from_right ancestor ++ reverse ex.0) ≢ Less = subst (λ r. by_labels (from_right y) r ≢ Less) (from_after x ancestor ex.0 ex.1) h in
    let high : by_labels (from_right y) (from_right ancestor ++ reverse ez.0) ≢ Greater = subst (λ r. by_labels (from_right y) r ≢ Greater) (from_after z ancestor ez.0 ez.1) k in
    let r = between (from_right ancestor) (reverse ex.0) (from_right y) (reverse ez.0) low high in
    (reverse r.0, to_front y ancestor r.0 r.1)

pub comes_first : ParentIsFirst
comes_first ancestor x e =
    subst (λ r. by_labels (from_right ancestor) r ≢ Greater) (sym (from_after x ancestor e.0 e.1)) (begins_first (from_right ancestor) (reverse e.0))
