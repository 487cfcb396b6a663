-- Lists of which each element is before those after it, by some relation: one is inserted, or one is put in the
-- place of another.
use Rattle.std.proofs.Common.{◌≡◌, ℕ, ◌+◌, ◌-◌, ◌<◌, ◌≤◌, ◌⊎◌, List, length, get_or, sym, ap, ◌∙◌, subst, arith, inl, inr, ⊎_elim}
use Rattle.std.specs.List.{insert, remove}
use Rattle.std.proofs.Math.Nat.{eq-or-lt_of_le}
use Rattle.std.proofs.lemmas.Bool.Decides.{leb_tells}
use Rattle.std.proofs.lemmas.List.Edits.{length-insert, get_or-insert_below, get_or-insert_at, get_or-insert_above, length-remove, get_or-remove_below, get_or-remove_above}

-- below, at or above
places : (k i : ℕ) → (k < i) ⊎ ((k ≡ i) ⊎ (i < k))
places k i = ⊎_elim
    (λ h. ⊎_elim (λ (e : k ≡ i). inr (inl e)) (λ (l : k < i). inl l) (eq-or-lt_of_le h.1))
    (λ h. inr (inr h.1))
    (leb_tells k i)

module _ {X : Type 0} (R : X → X → Type 0) where
  abbrev pub IsChain : List X → Type 0
  IsChain xs = (j k : ℕ) (d : X) → j < k → k < length xs → R (get_or xs j d) (get_or xs k d)

  both : (a b c d : X) → c ≡ a → d ≡ b → R a b → R c d
  both a b c d e f r = subst (λ x. R x d) (sym e) (subst (λ y. R a y) (sym f) r)

  module _ (xs : List X) (i : ℕ) (x : X) (o : IsChain xs) (w : i ≤ length xs) (before : (k : ℕ) (d : X) → k < i → R (get_or xs k d) x) (after : (k : ℕ) (d : X) → i ≤ k → k < length xs → R x (get_or xs k d)) where
    above : (k : ℕ) (d : X) → i < k → get_or (insert xs i x) k d ≡ get_or xs (k - 1) d
    above k d l =
        let e : k ≡ (k - 1) + 1 = omega (arith, l) in
        ap (λ n. get_or (insert xs i x) n d) e ∙ get_or-insert_above xs i x d (k - 1) (omega (arith, l)) w

    at : (k : ℕ) (d : X) → k ≡ i → get_or (insert xs i x) k d ≡ x
    at k d e = ap (λ n. get_or (insert xs i x) n d) e ∙ get_or-insert_at xs i x d w

    pub chain_insert : IsChain (insert xs i x)
    chain_insert j k d l m =
        let n : k < length xs + 1 = omega (arith, m, length-insert xs i x w) in
        ⊎_elim
        (λ (a : k < i). both (get_or xs j d) (get_or xs k d) _ _ (get_or-insert_below xs i x d j (omega (arith, l, a)) w) (get_or-insert_below xs i x d k a w) (o j k d l (omega (arith, a, w))))
        (⊎_elim
        (λ (e : k ≡ i). both (get_or xs j d) x _ _ (get_or-insert_below xs i x d j (omega (arith, l, e)) w) (at k d e) (before j d (omega (arith, l, e))))
        (λ (a : i < k). ⊎_elim
        (λ (b : j < i). both (get_or xs j d) (get_or xs (k - 1) d) _ _ (get_or-insert_below xs i x d j b w) (above k d a) (o j (k - 1) d (omega (arith, a, b)) (omega (arith, n, a))))
        (⊎_elim
        (λ (e : j ≡ i). both x (get_or xs (k - 1) d) _ _ (at j d e) (above k d a) (after (k - 1) d (omega (arith, a)) (omega (arith, n, a))))
        (λ (b : i < j). both (get_or xs (j - 1) d) (get_or xs (k - 1) d) _ _ (above j d b) (above k d a) (o (j - 1) (k - 1) d (omega (arith, b, l)) (omega (arith, n, a)))))
        (places j i)))
        (places k i)

  module _ (xs : List X) (i : ℕ) (x y : X) (o : IsChain xs) (w : i < length xs) (e : (d : X) → get_or xs i d ≡ y) (left : (s : X) → R s y → R s x) (right : (s : X) → R y s → R x s) where
    fits : i ≤ length (remove xs i)
    fits = omega (arith, w, length-remove xs i w)

    low : (k : ℕ) (d : X) → k < i → get_or (insert (remove xs i) i x) k d ≡ get_or xs k d
    low k d l = get_or-insert_below (remove xs i) i x d k l fits ∙ get_or-remove_below xs i d k l w

    here : (k : ℕ) (d : X) → k ≡ i → get_or (insert (remove xs i) i x) k d ≡ x
    here k d f = ap (λ n. get_or (insert (remove xs i) i x) n d) f ∙ get_or-insert_at (remove xs i) i x d fits

    high : (k : ℕ) (d : X) → i < k → get_or (insert (remove xs i) i x) k d ≡ get_or xs k d
    high k d l =
        let f : k ≡ (k - 1) + 1 = omega (arith, l) in
        ap (λ n. get_or (insert (remove xs i) i x) n d) f ∙ (get_or-insert_above (remove xs i) i x d (k - 1) (omega (arith, l)) fits
        ∙ (get_or-remove_above xs i d (k - 1) (omega (arith, l)) w ∙ ap (λ n. get_or xs n d) (sym f)))

    was : (k : ℕ) (d : X) → k ≡ i → get_or xs k d ≡ y
    was k d f = ap (λ n. get_or xs n d) f ∙ e d

    pub chain_replace : IsChain (insert (remove xs i) i x)
    chain_replace j k d l m =
        let n : k < length xs = omega (arith, m, length-insert (remove xs i) i x fits, length-remove xs i w) in
        let r : R (get_or xs j d) (get_or xs k d) = o j k d l n in
        ⊎_elim
        (λ (a : k < i). both _ _ _ _ (low j d (omega (arith, l, a))) (low k d a) r)
        (⊎_elim
        (λ (f : k ≡ i). both (get_or xs j d) x _ _ (low j d (omega (arith, l, f))) (here k d f) (left (get_or xs j d) (subst (λ s. R (get_or xs j d) s) (was k d f) r)))
        (λ (a : i < k). ⊎_elim
        (λ (b : j < i). both _ _ _ _ (low j d b) (high k d a) r)
        (⊎_elim
        (λ (f : j ≡ i). both x (get_or xs k d) _ _ (here j d f) (high k d a) (right (get_or xs k d) (subst (λ s. R s (get_or xs k d)) (was j d f) r)))
        (λ (b : i < j). both _ _ _ _ (high j d b) (high k d a) r))
        (places j i)))
        (places k i)
