-- Octets are made of one list of strings.
use Rattle.std.specs.Prelude.{◌≡◌, ℕ, zero, suc, ◌<◌, ◌≤◌, List, [], ◌∷◌, ◌++◌, length, drop, refl}
use Rattle.std.proofs.Common.{arith, ap, sym, ◌∙◌, append_assoc, length-append}
use Rattle.std.proofs.Math.Seq.{take-append_seam, drop-append_seam}
use Rattle.std.proofs.Math.Nat.{le_refl}
use Rattle.domain_txt.specs.Strings.{string_octets, cut_strings, strings_in, EndsInside}

-- cutting undoes writing
cut_written : (n : ℕ) (ss : List (List ℕ)) → length (string_octets ss) ≤ n → cut_strings n (string_octets ss) ≡ ss
cut_written zero [] h = refl
cut_written (suc n) [] h = refl
cut_written zero (s ∷ ss) h = absurd (omega (arith, h))
cut_written (suc n) (s ∷ ss) h = rw (take-append_seam s (string_octets ss), drop-append_seam s (string_octets ss)) (ap (λ r. s ∷ r) (cut_written n ss (omega (arith, h, length-append s (string_octets ss)))))

pub strings_written : (ss : List (List ℕ)) → strings_in (string_octets ss) ≡ ss
strings_written ss = cut_written (length (string_octets ss)) ss (le_refl (length (string_octets ss)))

-- octets are those of one list of strings only
pub strings_once : (xs ys : List (List ℕ)) → string_octets xs ≡ string_octets ys → xs ≡ ys
strings_once xs ys e = sym (strings_written xs) ∙ (ap strings_in e ∙ strings_written ys)

-- octets that are strings don't end inside of one
never_cut : (xs ys : List (List ℕ)) (len : ℕ) (rest : List ℕ) → string_octets xs ≡ string_octets ys ++ len ∷ rest → length rest < len → ⊥
never_cut [] [] len rest e cut = omega (arith, ap length e)
never_cut [] (y ∷ ys) len rest e cut = omega (arith, ap length e)
never_cut (x ∷ xs) [] len rest e cut =
    let head : length x ≡ len = cc in
    let tail : x ++ string_octets xs ≡ rest = cc in
    omega (arith, ap length tail, length-append x (string_octets xs))
never_cut (x ∷ xs) (y ∷ ys) len rest e cut =
    let head : length x ≡ length y = cc in
    let tail : x ++ string_octets xs ≡ (y ++ string_octets ys) ++ len ∷ rest = cc in
    let same : drop (length y) (x ++ string_octets xs) ≡ string_octets xs = ap (λ n. drop n (x ++ string_octets xs)) (sym head) ∙ drop-append_seam x (string_octets xs) in
    let there : drop (length y) ((y ++ string_octets ys) ++ len ∷ rest) ≡ string_octets ys ++ len ∷ rest = ap (drop (length y)) (append_assoc y (string_octets ys) (len ∷ rest)) ∙ drop-append_seam y (string_octets ys ++ len ∷ rest) in
    never_cut xs ys len rest (sym same ∙ (ap (drop (length y)) tail ∙ there)) cut

pub whole_or_cut : (o : List ℕ) (ss : List (List ℕ)) → o ≡ string_octets ss → EndsInside o → ⊥
whole_or_cut o ss e inside = never_cut ss inside.before inside.len inside.rest (sym e ∙ inside.begins.parts) inside.cut
