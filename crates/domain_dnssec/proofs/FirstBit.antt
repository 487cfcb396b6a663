-- The first bit of an octet that is a one, by a table of all octets.
use Rattle.std.proofs.Common.{◌≡◌, ℕ, zero, suc, ◌/◌, ◌%◌, ◌^◌, ◌<◌, Bool, true, false, nat_eq, ◌&&◌, ◌||◌, List, [], ◌∷◌, refl, arith, rules, ap, ◌∙◌, w8, inl, inr}
use Rattle.std.proofs.lemmas.Bool.{cases_lt}
use Rattle.std.specs.Int.{leading_zeros}
use Rattle.domain_dnssec.specs.Bits.{ones}

-- two lists are the same
abbrev same : List ℕ → List ℕ → Bool
same [] [] = true
same [] (y ∷ ys) = false
same (x ∷ xs) [] = false
same (x ∷ xs) (y ∷ ys) = nat_eq x y && same xs ys

both : (a b : Bool) → a && b ≡ true → (a ≡ true) × (b ≡ true)
both true b e = (refl, e)
both false b e = absurd (search (e, rules))

same_is : (xs ys : List ℕ) → same xs ys ≡ true → xs ≡ ys
same_is [] [] e = refl
same_is [] (y ∷ ys) e = absurd (search (e, rules))
same_is (x ∷ xs) [] e = absurd (search (e, rules))
same_is (x ∷ xs) (y ∷ ys) e =
    let parts = both (nat_eq x y) (same xs ys) e in
    let one : x ≡ y = grind (arith, rules) in
    let rest : xs ≡ ys = same_is xs ys parts.1 in
    λ i. one i ∷ rest i

-- the test holds below n
abbrev all_below : (ℕ → Bool) → ℕ → Bool
all_below p zero = true
all_below p (suc n) = p n && all_below p n

below : (p : ℕ → Bool) (n i : ℕ) → all_below p n ≡ true → i < n → p i ≡ true
below p zero i all lt = absurd (omega arith)
below p (suc n) i all lt =
    let parts = both (p n) (all_below p n) all in
    elim (cases_lt i n) [
      | inl less ↦ below p n i parts.1 less
      | inr more ↦ let is : i ≡ n = omega arith in ap p is ∙ parts.0
    ]

-- the first one, and the octet without it
abbrev right : ℕ → Bool
right o = nat_eq o 0 || same (ones o) (leading_zeros w8 o ∷ ones (o % (128 / 2 ^ leading_zeros w8 o)))

table : all_below right 256 ≡ true
unfolding ones lib.Count.count_leading_zeros
table = refl

apart : (o : ℕ) (b : Bool) → nat_eq o 0 || b ≡ true → (o ≡ 0 → ⊥) → b ≡ true
apart o b e some = grind (arith, rules)

pub first_is : (o : ℕ) → o < 256 → (o ≡ 0 → ⊥) → ones o ≡ leading_zeros w8 o ∷ ones (o % (128 / 2 ^ leading_zeros w8 o))
first_is o few some = same_is _ _ (apart o _ (below right 256 o table few) some)

pub none_is : (o : ℕ) → o ≡ 0 → ones o ≡ []
unfolding ones
none_is o is = rw is refl
