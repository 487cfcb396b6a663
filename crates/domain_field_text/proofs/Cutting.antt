-- Character strings, cut from octets one after another.
use Rattle.std.proofs.Common.{◌≡◌, ℕ, zero, suc, ◌-◌, ◌<◌, ◌≤◌, List, [], ◌∷◌, length, take, drop, get_or, refl, arith, ap, sym, ◌∙◌, length-drop}
use Rattle.std.proofs.lemmas.List.{take_all}
use Rattle.domain_txt.specs.Strings.{cut_strings, strings_in}

-- cuts as many as there are octets, or more
cut_enough : (n m : ℕ) (o : List ℕ) → length o ≤ n → length o ≤ m → cut_strings n o ≡ cut_strings m o
cut_enough zero zero o few many = refl
cut_enough zero (suc m) [] few many = refl
cut_enough zero (suc m) (c ∷ o) few many = absurd (omega (arith, few))
cut_enough (suc n) zero [] few many = refl
cut_enough (suc n) zero (c ∷ o) few many = absurd (omega (arith, many))
cut_enough (suc n) (suc m) [] few many = refl
cut_enough (suc n) (suc m) (c ∷ o) few many =
    ap (λ ss. take c o ∷ ss) (cut_enough n m (drop c o) (omega (arith, few, length-drop c o)) (omega (arith, many, length-drop c o)))

one_cut : (len : ℕ) (o : List ℕ) → strings_in (len ∷ o) ≡ take len o ∷ strings_in (drop len o)
one_cut len o =
    ap (λ ss. take len o ∷ ss) (cut_enough (length o) (length (drop len o)) (drop len o) (omega (arith, length-drop len o)) (omega arith))

-- octets with one at the front, as a pattern takes them apart
head_and_tail : (o : List ℕ) (n : ℕ) → 1 ≤ length o → n ≡ length o - 1 → o ≡ get_or o 0 0 ∷ take n (drop 1 o)
head_and_tail [] n some e = absurd (omega (arith, some))
head_and_tail (c ∷ o) n some e = ap (λ r. c ∷ r) (sym (take_all n o (omega (arith, e))))

-- the first string, where octets follow it
pub first_cut : (o s r : List ℕ) (n len : ℕ) → 1 ≤ length o → n ≡ length o - 1 → len ≡ get_or o 0 0 → s ≡ take len (take n (drop 1 o)) → r ≡ drop len (take n (drop 1 o)) → strings_in o ≡ s ∷ strings_in r
first_cut o s r n len some e head front back =
    let after = take n (drop 1 o) in
    let parts : o ≡ len ∷ after = head_and_tail o n some e ∙ ap (λ k. k ∷ after) (sym head) in
    ap strings_in parts ∙ (one_cut len after ∙ (ap (λ x. x ∷ strings_in (drop len after)) (sym front) ∙ ap (λ x. s ∷ strings_in x) (sym back)))

nothing_left : (k : ℕ) (o : List ℕ) → length o ≤ k → drop k o ≡ []
nothing_left zero [] few = refl
nothing_left (suc k) [] few = refl
nothing_left zero (c ∷ o) few = absurd (omega (arith, few))
nothing_left (suc k) (c ∷ o) few = nothing_left k o (omega (arith, few))

-- the last string, whole or cut
pub last_cut : (o s r : List ℕ) (n len : ℕ) → 1 ≤ length o → n ≡ length o - 1 → len ≡ get_or o 0 0 → length (take n (drop 1 o)) ≤ len
    → s ≡ take (length (take n (drop 1 o))) (take n (drop 1 o)) → r ≡ drop (length (take n (drop 1 o))) (take n (drop 1 o)) → strings_in o ≡ s ∷ strings_in r
last_cut o s r n len some e head short front back =
    let after = take n (drop 1 o) in
    let size = length after in
    let whole : take size after ≡ take len after = take_all size after (omega arith) ∙ sym (take_all len after short) in
    let none : drop size after ≡ drop len after = nothing_left size after (omega arith) ∙ sym (nothing_left len after short) in
    first_cut o s r n len some e head (front ∙ whole) (back ∙ none)
