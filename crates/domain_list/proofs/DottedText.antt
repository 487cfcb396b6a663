-- Names without escapes, whose text is their octets with dots in place of the length octets.
use Rattle.std.proofs.Common.{◌≡◌, ℕ, suc, ◌+◌, ◌<◌, ◌≤◌, Bool, true, false, cond, List, [], ◌∷◌, ◌++◌, length, take, drop, set, get_or, refl, ap, sym, ◌∙◌, subst, arith, add-one, append_assoc, append-nil, length-append}
use Rattle.std.specs.List.{AllByRecursion, flat_map, count_by}
use Rattle.std.specs.Prelude.{◌==◌}
use Rattle.std.proofs.Math.Seq.{take-add, drop-cons, drop-append_seam}
use Rattle.std.proofs.lemmas.List.{take-set-le, drop-set, drop-set-lt, drop-drop, take-append-drop}
use Rattle.std.proofs.lemmas.List.Sums.{sum_by-append}
use Rattle.std.proofs.lemmas.Grind.{common_steps}
use Rattle.domain_label.specs.Text.{escaped, escaped_octet, with_dot}
use Rattle.domain_label.specs.Wire.{wire, IsAbsolute}
use Rattle.domain_list.specs.Dotted.{dotted, IsShown}

-- a dot in place of a length octet
front_dotted : (o : List ℕ) (at n : ℕ) → at < length o → take (at + (1 + n)) (set o at 46) ≡ take at o ++ 46 ∷ take n (drop (at + 1) o)
front_dotted o at n within =
    let offset : at + (1 + n) ≡ at + suc n = omega (arith, add-one n) in
    ap (λ (k : ℕ). take k (set o at 46)) offset
    ∙ take-add at (suc n) (set o at 46)
    ∙ ap (λ (x : List ℕ). x ++ take (suc n) (drop at (set o at 46))) (take-set-le at o at 46 (omega arith))
    ∙ ap (λ (x : List ℕ). take at o ++ take (suc n) x) (drop-set o at 46 within)

-- what lies after a length octet
behind : (o l w : List ℕ) (at x : ℕ) → at < length o → take (length (x ∷ (l ++ w))) (drop at o) ≡ x ∷ (l ++ w) → (take (length l) (drop (at + 1) o) ≡ l) × (take (length w) (drop (at + (1 + length l)) o) ≡ w)
behind o l w at x within e =
    let d : List ℕ = drop (at + 1) o in
    let n : ℕ = length (l ++ w) in
    let t : take n d ≡ l ++ w = ap (drop 1) (ap (take (suc n)) (sym (drop-cons o at 0 within ∙ ap (λ (k : ℕ). get_or o at 0 ∷ drop k o) (sym (add-one at)))) ∙ e) in
    let r : d ≡ l ++ (w ++ drop n d) = sym (take-append-drop n d) ∙ ap (λ (z : List ℕ). z ++ drop n d) t ∙ append_assoc l w (drop n d) in
    let far : drop (at + (1 + length l)) o ≡ drop (length l) d = ap (λ (k : ℕ). drop k o) (omega arith) ∙ sym (drop-drop (length l) (at + 1) o) in
    (ap (take (length l)) r ∙ before l (w ++ drop n d), ap (take (length w)) (far ∙ ap (drop (length l)) r ∙ drop-append_seam l (w ++ drop n d)) ∙ before w (drop n d))
  where
    before : (u v : List ℕ) → take (length u) (u ++ v) ≡ u
    before u v = grind (arith, common_steps)

step_at : (o l : List ℕ) (at total : ℕ) (s t : List (List ℕ)) (all : List ℕ) → s ≡ l ∷ t → at + length (wire s) ≡ total → total ≤ length o → take (length (wire s)) (drop at o) ≡ wire s → take at o ++ dotted s ≡ all →
    (take (at + (1 + length l)) (set o at 46) ++ dotted t ≡ all) × (take (length (wire t)) (drop (at + (1 + length l)) (set o at 46)) ≡ wire t) × (at + (1 + length l) + length (wire t) ≡ total) × (at < length o)
step_at o l at total s t all e size fits there made =
    let n : length (wire s) ≡ 1 + (length l + length (wire t)) = omega (arith, ap (λ (r : List (List ℕ)). length (wire r)) e, length-append l (wire t)) in
    let within : at < length o = omega (arith, n, size, fits) in
    let b = behind o l (wire t) at (length l) within (subst (λ (r : List (List ℕ)). take (length (wire r)) (drop at o) ≡ wire r) e there) in (
      ap (λ (x : List ℕ). x ++ dotted t) (front_dotted o at (length l) within ∙ ap (λ (x : List ℕ). take at o ++ 46 ∷ x) b.0)
          ∙ append_assoc (take at o) (46 ∷ l) (dotted t) ∙ ap (λ (r : List (List ℕ)). take at o ++ dotted r) (sym e) ∙ made,
      ap (λ (x : List ℕ). take (length (wire t)) x) (drop-set-lt (at + (1 + length l)) o at 46 (omega arith)) ∙ b.1,
      omega (arith, n, size),
      within,
    )

pub step_dots : (o l : List ℕ) (at n total : ℕ) (s t : List (List ℕ)) (all : List ℕ) → n ≡ length l → s ≡ l ∷ t → at + length (wire s) ≡ total → total ≤ length o → take (length (wire s)) (drop at o) ≡ wire s → take at o ++ dotted s ≡ all →
    (take (at + (1 + n)) (set o at 46) ++ dotted t ≡ all) × (take (length (wire t)) (drop (at + (1 + n)) (set o at 46)) ≡ wire t) × (at + (1 + n) + length (wire t) ≡ total) × (at < length o)
step_dots o l at n total s t all en e size fits there made = rw en (step_at o l at total s t all e size fits there made)

-- there are no more labels than octets
pub few_labels : (ls : List (List ℕ)) → length ls ≤ length (wire ls)
few_labels [] = omega arith
few_labels (l ∷ ls) = omega (arith, few_labels ls, length-append l (wire ls))

-- where no label is left, all dots are put
pub all_put : (o : List ℕ) (at : ℕ) (s : List (List ℕ)) (total : ℕ) (all : List ℕ) → s ≡ [] → at + length (wire s) ≡ total → take at o ++ dotted s ≡ all → take total o ≡ all
all_put o at s total all e size made =
    ap (λ (k : ℕ). take k o) (sym size ∙ ap (λ (r : List (List ℕ)). at + length (wire r)) e ∙ omega arith)
    ∙ sym (append-nil (take at o)) ∙ ap (λ (r : List (List ℕ)). take at o ++ dotted r) (sym e) ∙ made

-- ---- what the text is

all_parts : (P : ℕ → Type 0) (xs ys : List ℕ) → AllByRecursion P (xs ++ ys) → AllByRecursion P xs × AllByRecursion P ys
all_parts P [] ys h = (tt, h)
all_parts P (x ∷ xs) ys h = let r = all_parts P xs ys h.1 in ((h.0, r.0), r.1)

abbrev dots : List ℕ → ℕ
dots = count_by (λ x. x == 46)

dots-append : (xs ys : List ℕ) → dots (xs ++ ys) ≡ dots xs + dots ys
dots-append xs ys = sum_by-append (λ y. cond (y == 46) 1 0) xs ys

-- as many dots as labels are those before the labels
enough : (ls : List (List ℕ)) → length ls ≤ dots (dotted ls)
enough [] = omega arith
enough (l ∷ ls) =
    let dot : dots (dotted (l ∷ ls)) ≡ 1 + dots (l ++ dotted ls) = dots-append (46 ∷ []) (l ++ dotted ls) in
    omega (arith, dot, enough ls, dots-append l (dotted ls))

-- octets that are spelled as themselves
shown_octet : (c : ℕ) → IsShown c → (c == 46) ≡ false → escaped_octet c ≡ c ∷ []
shown_octet c h e = grind (arith, common_steps)

shown : (l : List ℕ) → AllByRecursion IsShown l → dots l ≡ 0 → escaped l ≡ l
shown [] h e = refl
shown (c ∷ l) h e = cases (c == 46) refl (sym (dots-append (c ∷ []) l) ∙ e) (shown l h.1)
  where
    cases : (b : Bool) → (c == 46) ≡ b → 0 + cond b 1 0 + dots l ≡ 0 → (dots l ≡ 0 → escaped l ≡ l) → escaped (c ∷ l) ≡ c ∷ l
    cases true same z rest = absurd (omega (arith, z))
    cases false other z rest = ap (λ (x : List ℕ). x ++ escaped l) (shown_octet c h.0 other) ∙ ap (λ (x : List ℕ). c ∷ x) (rest (omega (arith, z)))

pub text_of : (ls : List (List ℕ)) → IsAbsolute ls → AllByRecursion IsShown (dotted ls) → dots (dotted ls) ≡ length ls → dotted ls ≡ 46 ∷ flat_map with_dot ls
text_of [] a h e = absurd a
text_of ([] ∷ ls) a h e = ap (λ (r : List (List ℕ)). dotted ([] ∷ r)) a ∙ sym (ap (λ (r : List (List ℕ)). 46 ∷ flat_map with_dot ([] ∷ r)) a)
text_of ((c ∷ l) ∷ ls) a h e =
    let parts = all_parts IsShown (c ∷ l) (dotted ls) h.1 in
    let dot : dots (dotted ((c ∷ l) ∷ ls)) ≡ 1 + dots ((c ∷ l) ++ dotted ls) = dots-append (46 ∷ []) ((c ∷ l) ++ dotted ls) in
    let count : dots ((c ∷ l) ++ dotted ls) ≡ dots (c ∷ l) + dots (dotted ls) = dots-append (c ∷ l) (dotted ls) in
    let none : dots (c ∷ l) ≡ 0 = omega (arith, dot, e, count, enough ls) in
    let more : dots (dotted ls) ≡ length ls = omega (arith, dot, e, count, none) in
    let rest : dotted ls ≡ 46 ∷ flat_map with_dot ls = text_of ls a.1 parts.1 more in
    let same : escaped (c ∷ l) ≡ c ∷ l = shown (c ∷ l) parts.0 none in
    ap (λ (x : List ℕ). 46 ∷ ((c ∷ l) ++ x)) rest
    ∙ sym (ap (λ (x : List ℕ). 46 ∷ ((x ++ 46 ∷ []) ++ flat_map with_dot ls)) same ∙ ap (λ (x : List ℕ). 46 ∷ x) (append_assoc (c ∷ l) (46 ∷ []) (flat_map with_dot ls)))
