-- What a filter keeps where one element passes the test, or none.
use Rattle.std.proofs.Common.{◌≡◌, ℕ, zero, suc, ◌<◌, Bool, true, false, cond, List, [], ◌∷◌, length, slice_index_or, refl, sym, ap, ◌∙◌, subst, arith, true≢false}
use Rattle.std.specs.List.{AllPairs, Contains, filter}

module _ {X : Type 0} (p : X → Bool) where
  -- no element passes
  abbrev pub NonePasses : List X → Type 0
  NonePasses xs = (x : X) → Contains xs x → p x ≡ true → ⊥

  -- at most one passes
  abbrev pub OnePasses : List X → Type 0
  OnePasses xs = AllPairs (λ x y. p x ≡ true → p y ≡ true → ⊥) xs

  later : (y : X) (ys : List X) (x : X) → Contains ys x → Contains (y ∷ ys) x
  later y ys x c = (suc c.0, omega (arith, c.1), c.2)

  none_by : (y : X) (ys : List X) (b : Bool) → p y ≡ b → (p y ≡ true → ⊥) → filter p ys ≡ [] → cond b (y ∷ filter p ys) (filter p ys) ≡ []
  none_by y ys true e n h = absurd (n e)
  none_by y ys false e n h = h

  pub filter_none : (xs : List X) → NonePasses xs → filter p xs ≡ []
  filter_none [] n = refl
  filter_none (y ∷ ys) n = none_by y ys (p y) refl (n y (zero, omega arith, refl)) (filter_none ys (λ x c. n x (later y ys x c)))

  rest_one : (y : X) (ys : List X) → OnePasses (y ∷ ys) → OnePasses ys
  rest_one y ys u i j d l h = u (suc i) (suc j) d (omega (arith, l)) (omega (arith, h))

  first_alone : (y : X) (ys : List X) → OnePasses (y ∷ ys) → p y ≡ true → NonePasses ys
  first_alone y ys u t x c q = u zero (suc c.0) x (omega arith) (omega (arith, c.1)) t (subst (λ z. p z ≡ true) (sym c.2) q)

  one_here : (y : X) (ys : List X) (x : X) (k : ℕ) → k < length (y ∷ ys) → slice_index_or (y ∷ ys) k x ≡ x → p x ≡ true → NonePasses ys → y ≡ x
  one_here y ys x zero h e t n = e
  one_here y ys x (suc k) h e t n = absurd (n x (k, omega (arith, h), e) t)

  not_here : (y : X) (ys : List X) (x : X) (k : ℕ) → k < length (y ∷ ys) → slice_index_or (y ∷ ys) k x ≡ x → p x ≡ true → p y ≡ false → Contains ys x
  not_here y ys x zero h e t f = absurd (true≢false (sym t ∙ (ap p (sym e) ∙ f)))
  not_here y ys x (suc k) h e t f = (k, omega (arith, h), e)

  one_by : (y : X) (ys : List X) (x : X) (b : Bool) → p y ≡ b → Contains (y ∷ ys) x → p x ≡ true → OnePasses (y ∷ ys)
      → (Contains ys x → filter p ys ≡ x ∷ []) → cond b (y ∷ filter p ys) (filter p ys) ≡ x ∷ []
  one_by y ys x true e c t u h =
      let alone = first_alone y ys u e in
      ap (λ zs. y ∷ zs) (filter_none ys alone) ∙ ap (λ z. z ∷ []) (one_here y ys x c.0 c.1 c.2 t alone)
  one_by y ys x false e c t u h = h (not_here y ys x c.0 c.1 c.2 t e)

  pub filter_one : (xs : List X) (x : X) → Contains xs x → p x ≡ true → OnePasses xs → filter p xs ≡ x ∷ []
  filter_one [] x c t u = absurd (omega (arith, c.1))
  filter_one (y ∷ ys) x c t u = one_by y ys x (p y) refl c t u (λ d. filter_one ys x d t (rest_one y ys u))
