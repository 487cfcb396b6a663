-- Parts that can't differ are equal.
use Rattle.std.proofs.Common.{◌≡◌, ◌⊎◌, ℕ, nat_eq, Bool, true, false, List, [], ◌∷◌, refl, ap, inl, inr, arith}
use Rattle.std.proofs.lemmas.Bool.Decides.{nat_tests}
use Rattle.domain_fields.specs.Parts.{Part, a_name, no_name}

abbrev SameOrNot : {A : Type 0} → A → A → Type 0
SameOrNot x y = (x ≡ y) ⊎ (x ≡ y → ⊥)

by_test : (a b : ℕ) (c : Bool) → nat_eq a b ≡ c → SameOrNot a b
by_test a b true e = inl (grind (arith, nat_tests))
by_test a b false e = inr (λ same. grind (arith, nat_tests))

numbers : (a b : ℕ) → SameOrNot a b
numbers a b = by_test a b (nat_eq a b) refl

both : {A : Type 0} (x y : A) (xs ys : List A) → SameOrNot x y → SameOrNot xs ys → SameOrNot (x ∷ xs) (y ∷ ys)
both x y xs ys (inl a) (inl b) = inl (cc)
both x y xs ys (inl a) (inr b) = inr (λ e. b (cc))
both x y xs ys (inr a) b = inr (λ e. a (cc))

lists : {A : Type 0} → ((x y : A) → SameOrNot x y) → (xs ys : List A) → SameOrNot xs ys
lists each [] [] = inl refl
lists each [] (y ∷ ys) = inr (λ e. cc)
lists each (x ∷ xs) [] = inr (λ e. cc)
lists each (x ∷ xs) (y ∷ ys) = both x y xs ys (each x y) (lists each xs ys)

names : (ls ks : List (List ℕ)) → SameOrNot ls ks → SameOrNot (a_name ls) (a_name ks)
names ls ks (inl e) = inl (ap a_name e)
names ls ks (inr differ) = inr (λ e. differ (cc))

octets : (os us : List ℕ) → SameOrNot os us → SameOrNot (no_name os) (no_name us)
octets os us (inl e) = inl (ap no_name e)
octets os us (inr differ) = inr (λ e. differ (cc))

one_or_not : (x y : Part) → SameOrNot x y
one_or_not (a_name ls) (a_name ks) = names ls ks (lists (lists numbers) ls ks)
one_or_not (a_name ls) (no_name us) = inr (λ e. cc)
one_or_not (no_name os) (a_name ks) = inr (λ e. cc)
one_or_not (no_name os) (no_name us) = octets os us (lists numbers os us)

settled : {A : Type 0} (x y : A) → SameOrNot x y → ((x ≡ y → ⊥) → ⊥) → x ≡ y
settled x y (inl e) not = e
settled x y (inr differ) not = absurd (not differ)

pub parts_settled : (xs ys : List Part) → ((xs ≡ ys → ⊥) → ⊥) → xs ≡ ys
parts_settled xs ys not = settled xs ys (lists one_or_not xs ys) not
