-- Going over the data of an RRset, of which each come before the next.
use Rattle.std.proofs.Common.{◌≡◌, ℕ, ◌+◌, ◌-◌, ◌<◌, ◌≤◌, List, Vec, length, map, get_or, slice_index_or, sym, ap, ◌∙◌, subst, arith, ⊎_elim}
use Rattle.std.specs.declared.alloc.Global.{Global}
use Rattle.std.specs.Cmp.Lexicographic.{slice_cmp}
use Rattle.std.specs.Ordering.{nat_cmp}
use Rattle.std.specs.declared.cmp.Ordering.TheVariants.{Less}
use Rattle.std.proofs.Math.Nat.{eq-or-lt_of_le}
use Rattle.std.proofs.lemmas.Cmp.{nat_list_cmp_total}
use Rattle.std.proofs.lemmas.List.{get_or-map}

-- the octets of data
abbrev pub octets_of : Vec ℕ Global → List ℕ
octets_of v = v.items

-- the first n are in ascending order
abbrev pub IsAscendingUpTo : List (List ℕ) → ℕ → Type 0
IsAscendingUpTo os n = (j k : ℕ) (d : List ℕ) → j < k → k < n →
    slice_cmp nat_cmp (slice_index_or os j d) (slice_index_or os k d) ≡ Less

-- the element of the list of views
pub view_of : {X Y : Type 0} (f : X → Y) (xs : List X) (i : ℕ) (x : X) → i < length xs → x ≡ get_or xs i x → (d : Y) → slice_index_or (map f xs) i d ≡ f x
view_of f xs i x h e d = get_or-map f xs i x d h ∙ ap f (sym e)

-- one more, if the one before it comes before it
pub ascending_more : (os : List (List ℕ)) (i : ℕ) → 1 ≤ i → IsAscendingUpTo os i
    → ((d : List ℕ) → slice_cmp nat_cmp (slice_index_or os (i - 1) d) (slice_index_or os i d) ≡ Less)
    → IsAscendingUpTo os (i + 1)
ascending_more os i one h s j k d l m =
    let Before : ℕ → ℕ → Type 0 = λ x y. slice_cmp nat_cmp (slice_index_or os x d) (slice_index_or os y d) ≡ Less in
    let last : (j : ℕ) → j < i → Before j i = λ j n. ⊎_elim
    (λ (e : j ≡ i - 1). subst (λ x. Before x i) (sym e) (s d))
    (λ (e : j < i - 1). nat_list_cmp_total.trans (slice_index_or os j d) (slice_index_or os (i - 1) d) (slice_index_or os i d) (h j (i - 1) d e (omega (arith, one))) (s d))
    (eq-or-lt_of_le (omega (arith, n))) in
    ⊎_elim
    (λ (e : k ≡ i). subst (λ x. Before j x) (sym e) (last j (omega (arith, l, e))))
    (λ (e : k < i). h j k d l e)
    (eq-or-lt_of_le (omega (arith, m)))
