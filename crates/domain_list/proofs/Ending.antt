-- A test of how lists begin.
use Rattle.std.proofs.Common.{◌≡◌, ℕ, Bool, true, false, ◌&&◌, ◌==◌, List, [], ◌∷◌, ◌++◌, refl, sym, true≢false}
use Rattle.std.specs.Bool.{Decides}
use Rattle.std.specs.Cmp.{unsigned_Decides}
use Rattle.std.specs.Cmp.Lexicographic.{pointwise}
use Rattle.std.proofs.lemmas.Slice.Eq.{slice_eq-Decides}
use Rattle.domain_label.specs.Lowercase.{lowercase_labels}
use Rattle.domain_list.specs.Ends.{StartsWith}

-- the second list begins with the first
abbrev pub begins : List (List ℕ) → List (List ℕ) → Bool
begins [] xs = true
begins (y ∷ ys) [] = false
begins (y ∷ ys) (x ∷ xs) = pointwise ◌==◌ y x && begins ys xs

-- the labels of the second begin with those of the first, without case
abbrev pub starts : List (List ℕ) → List (List ℕ) → Bool
starts ys xs = begins (lowercase_labels ys) (lowercase_labels xs)

both : (s t : Bool) → (s && t) ≡ true → (s ≡ true) × (t ≡ true)
both true t h = (refl, h)
both false t h = absurd (true≢false (sym h))

and_both : (s t : Bool) → s ≡ true → t ≡ true → (s && t) ≡ true
and_both true t h k = k
and_both false t h k = h

same_octets : (x y : List ℕ) → Decides (pointwise ◌==◌ x y) (x ≡ y)
same_octets x y = slice_eq-Decides unsigned_Decides x y _ refl

joined : (x y : List ℕ) (xs zs : List (List ℕ)) → y ≡ x → xs ≡ zs → x ∷ xs ≡ y ∷ zs
joined x y xs zs p q = cc

first_of : (x y : List ℕ) (xs zs : List (List ℕ)) → x ∷ xs ≡ y ∷ zs → y ≡ x
first_of x y xs zs h = cc

others_of : (x y : List ℕ) (xs zs : List (List ℕ)) → x ∷ xs ≡ y ∷ zs → xs ≡ zs
others_of x y xs zs h = cc

no_first : (y : List ℕ) (zs : List (List ℕ)) → [] ≡ y ∷ zs → ⊥
no_first y zs h = cc

begins_Decides : (ys xs : List (List ℕ)) → Decides (begins ys xs) ((rest : List (List ℕ)) × (xs ≡ ys ++ rest))
begins_Decides [] xs = (λ h. (xs, refl), λ h. refl)
begins_Decides (y ∷ ys) [] = (λ h. absurd (true≢false (sym h)), λ p. absurd (no_first y (ys ++ p.0) p.1))
begins_Decides (y ∷ ys) (x ∷ xs) = (
  λ h. let b = both (pointwise ◌==◌ y x) (begins ys xs) h in let r = (begins_Decides ys xs).0 b.1 in (r.0, joined x y xs (ys ++ r.0) ((same_octets y x).0 b.0) r.1),
  λ p. and_both (pointwise ◌==◌ y x) (begins ys xs) ((same_octets y x).1 (first_of x y xs (ys ++ p.0) p.1)) ((begins_Decides ys xs).1 (p.0, others_of x y xs (ys ++ p.0) p.1)),
)

pub starts_Decides : (ys xs : List (List ℕ)) → Decides (starts ys xs) (StartsWith xs ys)
starts_Decides ys xs = begins_Decides (lowercase_labels ys) (lowercase_labels xs)
