-- Slices of labels as names, for the name types of the tests.
use Rattle.std.proofs.Common.{◌≡◌, ℕ, ◌+◌, ◌<◌, List, [], ◌∷◌, ◌++◌, length, map, take, refl, sym, ◌∙◌, ap, subst, arith, length-append, get_or}
use Rattle.std.proofs.lemmas.List.{map-append, take_more}
use Rattle.domain_label.specs.declared.label.Label.{Label}
use Rattle.domain_label.specs.Labels.{label_octets}
use Rattle.domain_label.specs.Wire.{wire, IsLabel, IsAbsolute, IsRelative, IsAbsoluteName, IsRelativeName}
use Rattle.domain_label.proofs.WireLaws.{length-wire_append, relative_then_relative, relative_then_absolute}

-- a list, and its size, with one label more
one_relative : (l : List ℕ) → (l ≡ [] → ⊥) → IsLabel l → IsRelative (l ∷ [])
one_relative [] h k = absurd (h refl)
one_relative (x ∷ xs) h k = (k, tt)

pub more_relative : (xs : List Label) (i : ℕ) (x : Label) → i < length xs → x ≡ get_or xs i x → (label_octets x ≡ [] → ⊥) → IsLabel (label_octets x) → IsRelative (map label_octets (take i xs)) → IsRelative (map label_octets (take (i + 1) xs))
more_relative xs i x h e n k r =
    let split : map label_octets (take (i + 1) xs) ≡ map label_octets (take i xs) ++ label_octets x ∷ [] =
    ap (map label_octets) (take_more xs i x h) ∙ (map-append label_octets (take i xs) (get_or xs i x ∷ []) ∙ ap (λ y. map label_octets (take i xs) ++ label_octets y ∷ []) (sym e)) in
    subst IsRelative (sym split) (relative_then_relative _ _ r (one_relative (label_octets x) n k))

pub more_size : (xs : List Label) (i : ℕ) (x : Label) → i < length xs → x ≡ get_or xs i x → length (wire (map label_octets (take (i + 1) xs))) ≡ length (wire (map label_octets (take i xs))) + (1 + length (label_octets x))
more_size xs i x h e =
    let front = map label_octets (take i xs) in
    let split : map label_octets (take (i + 1) xs) ≡ front ++ label_octets x ∷ [] =
    ap (map label_octets) (take_more xs i x h) ∙ (map-append label_octets (take i xs) (get_or xs i x ∷ []) ∙ ap (λ y. front ++ label_octets y ∷ []) (sym e)) in
    omega (arith, ap (λ r. length (wire r)) split, length-wire_append front (label_octets x ∷ []), length-append (label_octets x) [])

-- a relative list and a root
pub then_root : (xs front : List Label) (x : Label) → xs ≡ front ++ x ∷ [] → label_octets x ≡ [] → IsRelativeName (map label_octets front) → IsAbsoluteName (map label_octets xs) × (length (wire (map label_octets xs)) ≡ length (wire (map label_octets front)) + 1)
then_root xs front x e r n =
    let split : map label_octets xs ≡ map label_octets front ++ [] ∷ [] =
    ap (map label_octets) e ∙ (map-append label_octets front (x ∷ []) ∙ ap (λ y. map label_octets front ++ y ∷ []) r) in
    let size : length (wire (map label_octets xs)) ≡ length (wire (map label_octets front)) + 1 =
    omega (arith, ap (λ q. length (wire q)) split, length-wire_append (map label_octets front) ([] ∷ [])) in
    let absolute : IsAbsolute (map label_octets xs) = subst IsAbsolute (sym split) (relative_then_absolute _ _ n.0 refl) in
    ((absolute, omega (arith, size, n.1)), size)
