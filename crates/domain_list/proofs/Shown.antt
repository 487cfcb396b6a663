-- What a walk over labels has shown.
use Rattle.std.proofs.Common.{◌≡◌, ℕ, ◌+◌, ◌*◌, ◌≤◌, ◌<◌, List, [], ◌∷◌, ◌++◌, length, refl, sym, ap, ◌∙◌, append_assoc, append-nil, arith, length-append}
use Rattle.std.specs.List.{flat_map}
use Rattle.domain_label.specs.Text.{with_dot, or_dot, text_with_final_dot}
use Rattle.domain_label.specs.Wire.{wire}

-- one label more with its dot
pub more_dotted : (text new l all : List ℕ) (s t : List (List ℕ)) → text ++ flat_map with_dot s ≡ all → s ≡ l ∷ t → new ≡ text ++ with_dot l → new ++ flat_map with_dot t ≡ all
more_dotted text new l all s t h e f =
    ap (λ r. r ++ flat_map with_dot t) f ∙ (append_assoc text (with_dot l) (flat_map with_dot t) ∙ (ap (λ r. text ++ flat_map with_dot r) (sym e) ∙ h))

pub less_room : (m n : ℕ) (l : List ℕ) (s t : List (List ℕ)) → m + 4 * length (wire s) ≤ 1020 → s ≡ l ∷ t → n ≤ m + 4 * length l + 1 → n + 4 * length (wire t) ≤ 1020
less_room m n l s t h e f = omega (arith, h, f, ap (λ r. length (wire r)) e, length-append l (wire t))

pub label_room : (m : ℕ) (l : List ℕ) (s t : List (List ℕ)) → m + 4 * length (wire s) ≤ 1020 → s ≡ l ∷ t → m + 4 * length l + 1 ≤ 1020
label_room m l s t h e = omega (arith, h, ap (λ r. length (wire r)) e, length-append l (wire t))

-- where no label is left, all is shown, and nothing is a dot
dotted_done : (text : List ℕ) (s all : List (List ℕ)) → text ++ flat_map with_dot s ≡ flat_map with_dot all → s ≡ [] → or_dot text ≡ text_with_final_dot all
dotted_done text s all h e = ap or_dot (sym (append-nil text) ∙ (ap (λ r. text ++ flat_map with_dot r) (sym e) ∙ h))

or_dot_some : (text : List ℕ) → 0 < length text → or_dot text ≡ text
or_dot_some [] h = absurd (omega (arith, h))
or_dot_some (c ∷ t) h = refl

pub dotted_some : (text : List ℕ) (s all : List (List ℕ)) → text ++ flat_map with_dot s ≡ flat_map with_dot all → s ≡ [] → 0 < length text → text ≡ text_with_final_dot all
dotted_some text s all h e some = sym (or_dot_some text some) ∙ dotted_done text s all h e

pub dotted_none : (text : List ℕ) (s all : List (List ℕ)) → text ++ flat_map with_dot s ≡ flat_map with_dot all → s ≡ [] → length text ≡ 0 → text ++ 46 ∷ [] ≡ text_with_final_dot all
dotted_none [] s all h e none = dotted_done [] s all h e
dotted_none (c ∷ t) s all h e none = absurd (omega (arith, none))
