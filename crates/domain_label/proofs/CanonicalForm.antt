-- The canonical form of a wire format is that of its labels.
use Rattle.std.proofs.Common.{◌≡◌, ◌↔◌, ℕ, List, [], ◌∷◌, ◌++◌, length, refl, sym, ◌∙◌, ap, subst, arith, length-append}
use Rattle.std.specs.Char.{to_ascii_lowercase}
use Rattle.std.proofs.lemmas.List.{map-append, length-map}
use Rattle.domain_label.specs.Lowercase.{lowercase, lowercase_labels}
use Rattle.domain_label.specs.Wire.{wire, labels_in, AreLabels, IsAbsolute, IsRelative, IsAbsoluteWire, IsRelativeWire}
use Rattle.domain_label.proofs.WireLaws.{labels_in_wire, wire_once, wire_absolute, wire_relative, absolute_labels, relative_labels}

pub lowercase_length : (l : List ℕ) → length (lowercase l) ≡ length l
lowercase_length l = length-map l to_ascii_lowercase

pub lowercase_wire : (ls : List (List ℕ)) → AreLabels ls → lowercase (wire ls) ≡ wire (lowercase_labels ls)
lowercase_wire [] h = refl
lowercase_wire (l ∷ ls) h =
    let n : to_ascii_lowercase (length l) ≡ length (lowercase l) = grind (arith, h.0, lowercase_length l) in
    ap (λ r. r ∷ lowercase (l ++ wire ls)) n ∙ ap (λ r. length (lowercase l) ∷ r) (map-append to_ascii_lowercase l (wire ls) ∙ ap (λ r. lowercase l ++ r) (lowercase_wire ls h.1))

-- lowered labels keep their shape
pub lowercase_absolute : (ls : List (List ℕ)) → IsAbsolute ls → IsAbsolute (lowercase_labels ls)
lowercase_absolute [] a = a
lowercase_absolute ([] ∷ ls) a = ap lowercase_labels a
lowercase_absolute ((c ∷ l) ∷ ls) a = (omega (arith, a.0, lowercase_length l), lowercase_absolute ls a.1)

pub lowercase_relative : (ls : List (List ℕ)) → IsRelative ls → IsRelative (lowercase_labels ls)
lowercase_relative [] a = a
lowercase_relative ([] ∷ ls) a = absurd a
lowercase_relative ((c ∷ l) ∷ ls) a = (omega (arith, a.0, lowercase_length l), lowercase_relative ls a.1)

-- lowered labels have as many octets
pub lowercase_size : (ls : List (List ℕ)) → length (wire (lowercase_labels ls)) ≡ length (wire ls)
lowercase_size [] = refl
lowercase_size (l ∷ ls) = omega (arith, lowercase_size ls, lowercase_length l, length-append l (wire ls), length-append (lowercase l) (wire (lowercase_labels ls)))

-- lowered octets of an absolute name are its lowered labels
pub lowered_absolute : (o new : List ℕ) → IsAbsoluteWire o → new ≡ lowercase o → IsAbsoluteWire new × (labels_in new ≡ lowercase_labels (labels_in o))
lowered_absolute o new w e =
    let ls = labels_in o in
    let h = absolute_labels ls w.1.0 in
    let there : new ≡ wire (lowercase_labels ls) = e ∙ (ap lowercase (sym w.0) ∙ lowercase_wire ls h) in (
      subst IsAbsoluteWire (sym there) (wire_absolute (lowercase_labels ls) (lowercase_absolute ls w.1.0, omega (arith, lowercase_size ls, w.1.1))),
      ap labels_in there ∙ labels_in_wire (lowercase_labels ls),
    )

-- and of a relative one
pub lowered_relative : (o new : List ℕ) → IsRelativeWire o → new ≡ lowercase o → IsRelativeWire new × (labels_in new ≡ lowercase_labels (labels_in o))
lowered_relative o new w e =
    let ls = labels_in o in
    let h = relative_labels ls w.1.0 in
    let there : new ≡ wire (lowercase_labels ls) = e ∙ (ap lowercase (sym w.0) ∙ lowercase_wire ls h) in (
      subst IsRelativeWire (sym there) (wire_relative (lowercase_labels ls) (lowercase_relative ls w.1.0, omega (arith, lowercase_size ls, w.1.1))),
      ap labels_in there ∙ labels_in_wire (lowercase_labels ls),
    )

-- lists are the same without case where their wire formats are
pub lowercase_wires : (xs ys : List (List ℕ)) → AreLabels xs → AreLabels ys → (lowercase (wire xs) ≡ lowercase (wire ys)) ↔ (lowercase_labels xs ≡ lowercase_labels ys)
lowercase_wires xs ys a b = (
  λ e. wire_once (lowercase_labels xs) (lowercase_labels ys) (sym (lowercase_wire xs a) ∙ (e ∙ lowercase_wire ys b)),
  λ e. lowercase_wire xs a ∙ (ap wire e ∙ sym (lowercase_wire ys b)),
)
