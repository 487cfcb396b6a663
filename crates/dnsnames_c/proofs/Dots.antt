-- The final dot of a name's text.
use Rattle.std.proofs.Common.{◌≡◌, ℕ, ◌-◌, ◌<◌, List, [], ◌∷◌, ◌++◌, length, take, refl, sym, ap, ◌∙◌, append_assoc, arith, length-append}
use Rattle.std.specs.List.{flat_map}
use Rattle.std.proofs.Math.Seq.{take-append_seam}
use Rattle.domain_label.specs.Text.{escaped, escaped_octet, with_dot, dot_before, or_dot, text_with_final_dot, displayed}
use Rattle.domain_label.specs.Wire.{IsAbsolute}

-- Dots after labels and dots before them differ by the first and the last.
dots_move : (ls : List (List ℕ)) → IsAbsolute ls → 46 ∷ flat_map with_dot ls ≡ flat_map dot_before ls ++ 46 ∷ []
dots_move [] h = absurd h
dots_move ([] ∷ ls) h = ap (λ ls. 46 ∷ flat_map with_dot ls) h ∙ sym (ap (λ ls. flat_map dot_before ls ++ 46 ∷ []) h)
dots_move ((c ∷ l) ∷ ls) h =
    let s = escaped (c ∷ l) in
    let left : (46 ∷ (s ++ 46 ∷ [])) ++ flat_map with_dot ls ≡ (46 ∷ s) ++ (46 ∷ flat_map with_dot ls) = append_assoc (46 ∷ s) (46 ∷ []) (flat_map with_dot ls) in
    left ∙ (ap (λ r. (46 ∷ s) ++ r) (dots_move ls h.1) ∙ sym (append_assoc (46 ∷ s) (flat_map dot_before ls) (46 ∷ [])))

or_dot_some : (t : List ℕ) → 0 < length t → or_dot t ≡ t
or_dot_some [] h = absurd (omega (arith, h))
or_dot_some (c ∷ t) h = refl

spelled_some : (c : ℕ) → 0 < length (escaped_octet c)
spelled_some c = grind arith

label_some : (c : ℕ) (l : List ℕ) (t : List ℕ) → 0 < length (escaped (c ∷ l) ++ t)
label_some c l t = omega (arith, spelled_some c, length-append (escaped_octet c) (escaped l), length-append (escaped (c ∷ l)) t)

-- The text of a name that isn't the root, and a dot.
more_shown : (c : ℕ) (l : List ℕ) (ls : List (List ℕ)) → IsAbsolute ls → text_with_final_dot ((c ∷ l) ∷ ls) ≡ displayed ((c ∷ l) ∷ ls) ++ 46 ∷ []
more_shown c l ls h =
    let s = escaped (c ∷ l) in
    let whole : (s ++ 46 ∷ []) ++ flat_map with_dot ls ≡ (s ++ flat_map dot_before ls) ++ 46 ∷ [] = append_assoc s (46 ∷ []) (flat_map with_dot ls) ∙ (ap (λ r. s ++ r) (dots_move ls h) ∙ sym (append_assoc s (flat_map dot_before ls) (46 ∷ []))) in
    let some : 0 < length ((s ++ 46 ∷ []) ++ flat_map with_dot ls) = omega (arith, ap length (append_assoc s (46 ∷ []) (flat_map with_dot ls)), label_some c l ((46 ∷ []) ++ flat_map with_dot ls)) in
    or_dot_some ((s ++ 46 ∷ []) ++ flat_map with_dot ls) some ∙ (whole ∙ sym (ap (λ r. r ++ 46 ∷ []) (or_dot_some (s ++ flat_map dot_before ls) (label_some c l (flat_map dot_before ls)))))

cut_last : (t s : List ℕ) → t ≡ s ++ 46 ∷ [] → take (length t - 1) t ≡ s
cut_last t s e =
    let size : length t - 1 ≡ length s = omega (arith, ap length e, length-append s (46 ∷ [])) in
    ap (λ n. take n t) size ∙ (ap (take (length s)) e ∙ take-append_seam s (46 ∷ []))

pub dot_cut : (t : List ℕ) (ls : List (List ℕ)) → IsAbsolute ls → t ≡ text_with_final_dot ls → 1 < length t → take (length t - 1) t ≡ displayed ls
dot_cut t [] h e long = absurd h
dot_cut t ([] ∷ ls) h e long = absurd (omega (arith, long, ap length e, ap (λ ls. length (text_with_final_dot ([] ∷ ls))) h))
dot_cut t ((c ∷ l) ∷ ls) h e long = cut_last t (displayed ((c ∷ l) ∷ ls)) (e ∙ more_shown c l ls h.1)

pub dot_alone : (t : List ℕ) (ls : List (List ℕ)) → IsAbsolute ls → t ≡ text_with_final_dot ls → (1 < length t → ⊥) → t ≡ displayed ls
dot_alone t [] h e few = absurd h
dot_alone t ([] ∷ ls) h e few = e ∙ (ap (λ ls. text_with_final_dot ([] ∷ ls)) h ∙ sym (ap (λ ls. displayed ([] ∷ ls)) h))
dot_alone t ((c ∷ l) ∷ ls) h e few =
    let tail = displayed ((c ∷ l) ∷ ls) in
    let some : 0 < length tail = omega (arith, ap length (or_dot_some (escaped (c ∷ l) ++ flat_map dot_before ls) (label_some c l (flat_map dot_before ls))), label_some c l (flat_map dot_before ls)) in
    absurd (few (omega (arith, ap length (e ∙ more_shown c l ls h.1), length-append tail (46 ∷ []), some)))
