-- Octets compared without case, one by one and part by part, where the last parts may overlap.
use Rattle.std.proofs.Common.{◌≡◌, ◌↔◌, IsTrue, ℕ, Bool, true, false, nat_eq, ◌&&◌, ◌+◌, ◌-◌, ◌≤◌, ◌<◌, List, [], ◌∷◌, ◌++◌, length, take, drop, slice_index_or, refl, sym, ap, ◌∙◌, subst, arith, length-append, true≢false}
use Rattle.std.proofs.lemmas.List.{take-map, drop-map, map-append, take-append-drop, take_more}
use Rattle.std.proofs.lemmas.Grind.{common_steps}
use Rattle.std.proofs.Math.Seq.{take-add}
use Rattle.std.specs.Char.{to_ascii_lowercase}
use Rattle.domain_label.specs.Lowercase.{lowercase}

-- lists that go on by one each are the same where both parts are
one_more : (us vs : List ℕ) (x y : ℕ) → us ++ x ∷ [] ≡ vs ++ y ∷ [] → (us ≡ vs) × (x ≡ y)
one_more [] [] x y e = (refl, cc)
one_more [] (v ∷ vs) x y e = absurd (omega (arith, ap length e, length-append vs (y ∷ [])))
one_more (u ∷ us) [] x y e = absurd (omega (arith, ap length e, length-append us (x ∷ [])))
one_more (u ∷ us) (v ∷ vs) x y e =
    let tail : us ++ x ∷ [] ≡ vs ++ y ∷ [] = cc in
    let first : u ≡ v = cc in
    let r = one_more us vs x y tail in
    (ap (λ w. w ∷ us) first ∙ ap (λ ws. v ∷ ws) r.0, r.1)

low_more : (o : List ℕ) (i : ℕ) → i < length o → lowercase (take (i + 1) o) ≡ lowercase (take i o) ++ to_ascii_lowercase (slice_index_or o i 0) ∷ []
low_more o i few = ap lowercase (take_more o i 0 few) ∙ map-append to_ascii_lowercase (take i o) (slice_index_or o i 0 ∷ [])

same_test : (x y : ℕ) → nat_eq x y ≡ true → x ≡ y
same_test x y h = grind (arith, common_steps)

test_same : (x y : ℕ) → x ≡ y → nat_eq x y ≡ true
test_same x y h = grind (arith, common_steps)

-- an octet more of both
pub same_more : (s : Bool) (a b : List ℕ) (i x y : ℕ) → i < length a → length a ≡ length b → x ≡ to_ascii_lowercase (slice_index_or a i 0) → y ≡ to_ascii_lowercase (slice_index_or b i 0)
    → (IsTrue s ↔ (lowercase (take i a) ≡ lowercase (take i b))) → IsTrue (s && nat_eq x y) ↔ (lowercase (take (i + 1) a) ≡ lowercase (take (i + 1) b))
same_more true a b i x y few long e f h = (
  λ t. low_more a i few ∙ (ap (λ r. r ++ to_ascii_lowercase (slice_index_or a i 0) ∷ []) (h.0 refl) ∙ (ap (λ c. lowercase (take i b) ++ c ∷ []) (sym e ∙ (same_test x y t ∙ f)) ∙ sym (low_more b i (omega (arith, few, long))))),
  λ p. test_same x y (e ∙ ((one_more _ _ _ _ (sym (low_more a i few) ∙ (p ∙ low_more b i (omega (arith, few, long))))).1 ∙ sym f)),
)
same_more false a b i x y few long e f h = (
  λ t. absurd (true≢false (sym t)),
  λ p. h.1 (one_more _ _ _ _ (sym (low_more a i few) ∙ (p ∙ low_more b i (omega (arith, few, long))))).0,
)

-- all of them
pub same_all : (s : Bool) (a b : List ℕ) (i : ℕ) → length a ≤ i → length b ≤ i → (IsTrue s ↔ (lowercase (take i a) ≡ lowercase (take i b))) → IsTrue s ↔ (lowercase a ≡ lowercase b)
same_all s a b i m n h =
    let e : take i a ≡ a = grind (arith, common_steps) in
    let f : take i b ≡ b = grind (arith, common_steps) in
    subst (λ o. IsTrue s ↔ (lowercase o ≡ lowercase b)) e (subst (λ o. IsTrue s ↔ (lowercase (take i a) ≡ lowercase o)) f h)

-- what is sliced up to the end
pub sliced_end : (o : List ℕ) (n : ℕ) → n ≤ length o → take (length o - n) (drop n o) ≡ drop n o
sliced_end o n le = grind (arith, common_steps)

-- what is the same is so in each part
pub low_part : (a b : List ℕ) (m n : ℕ) → lowercase a ≡ lowercase b → lowercase (take n (drop m a)) ≡ lowercase (take n (drop m b))
low_part a b m n e =
    let down : (o : List ℕ) → lowercase (take n (drop m o)) ≡ take n (drop m (lowercase o)) =
    λ o. sym (take-map to_ascii_lowercase n (drop m o)) ∙ ap (take n) (sym (drop-map to_ascii_lowercase m o)) in
    down a ∙ (ap (λ o. take n (drop m o)) e ∙ sym (down b))

split_low : (o : List ℕ) (n : ℕ) → lowercase o ≡ lowercase (take n o) ++ lowercase (drop n o)
split_low o n =
    ap lowercase (sym (take-append-drop n o)) ∙ map-append to_ascii_lowercase (take n o) (drop n o)

front_low : (o : List ℕ) (m n : ℕ) → m ≤ n → lowercase (take m o) ≡ take m (lowercase (take n o))
front_low o m n le =
    let shorter : take m o ≡ take m (take n o) = grind (arith, common_steps) in
    ap lowercase shorter ∙ sym (take-map to_ascii_lowercase m (take n o))

-- a front and an end that leave no gap are all
pub low_covered : (a b : List ℕ) (last offset : ℕ) → last ≤ offset → lowercase (take offset a) ≡ lowercase (take offset b) → lowercase (drop last a) ≡ lowercase (drop last b) → lowercase a ≡ lowercase b
low_covered a b last offset le front back =
    let start : lowercase (take last a) ≡ lowercase (take last b) = front_low a last offset le ∙ (ap (take last) front ∙ sym (front_low b last offset le)) in
    split_low a last ∙ (ap (λ r. r ++ lowercase (drop last a)) start ∙ (ap (λ r. lowercase (take last b) ++ r) back ∙ sym (split_low b last)))

-- a part more
pub low_further : (a b : List ℕ) (offset size n : ℕ) → n ≡ size → lowercase (take offset a) ≡ lowercase (take offset b) → lowercase (take n (drop offset a)) ≡ lowercase (take n (drop offset b)) → lowercase (take (offset + size) a) ≡ lowercase (take (offset + size) b)
low_further a b offset size n same front part =
    let both : (o : List ℕ) → lowercase (take (offset + size) o) ≡ lowercase (take offset o) ++ lowercase (take n (drop offset o)) =
    λ o. ap lowercase (ap (λ k. take (offset + k) o) (sym same) ∙ take-add offset n o) ∙ map-append to_ascii_lowercase (take offset o) (take n (drop offset o)) in
    both a ∙ (ap (λ r. r ++ lowercase (take n (drop offset a))) front ∙ (ap (λ r. lowercase (take offset b) ++ r) part ∙ sym (both b)))

low_end : (a b : List ℕ) (m : ℕ) → lowercase a ≡ lowercase b → lowercase (drop m a) ≡ lowercase (drop m b)
low_end a b m e = sym (drop-map to_ascii_lowercase m a) ∙ (ap (drop m) e ∙ drop-map to_ascii_lowercase m b)

-- the same of what is sliced up to the end
pub sliced_low : (a b : List ℕ) (m : ℕ) → m ≤ length a → m ≤ length b → (lowercase a ≡ lowercase b → lowercase (take (length a - m) (drop m a)) ≡ lowercase (take (length b - m) (drop m b))) × (lowercase (take (length a - m) (drop m a)) ≡ lowercase (take (length b - m) (drop m b)) → lowercase (drop m a) ≡ lowercase (drop m b))
sliced_low a b m f g =
    let x = ap lowercase (sliced_end a m f) in
    let y = ap lowercase (sliced_end b m g) in
    (λ e. x ∙ (low_end a b m e ∙ sym y), λ e. sym x ∙ (e ∙ y))

-- two parts that leave no gap
pub same_both : (s t : Bool) (a b : List ℕ) (size last : ℕ) → length a ≡ length b → last ≤ length a → last ≤ size → (IsTrue s ↔ (lowercase (take (length a - last) (drop last a)) ≡ lowercase (take (length b - last) (drop last b)))) → (IsTrue t ↔ (lowercase (take size a) ≡ lowercase (take size b))) → IsTrue (s && t) ↔ (lowercase a ≡ lowercase b)
same_both true true a b size last e f g h i = (λ x. low_covered a b last size g (i.0 refl) ((sliced_low a b last f (omega (arith, e, f))).1 (h.0 refl)), λ x. refl)
same_both true false a b size last e f g h i = (λ x. absurd (true≢false (sym x)), λ x. i.1 (low_part a b 0 size x))
same_both false t a b size last e f g h i = (λ x. absurd (true≢false (sym x)), λ x. h.1 ((sliced_low a b last f (omega (arith, e, f))).0 x))
