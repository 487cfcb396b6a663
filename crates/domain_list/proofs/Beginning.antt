-- Wire formats of which one begins with the octets of the other.
use Rattle.std.proofs.Common.{◌≡◌, ◌↔◌, IsTrue, ℕ, Bool, List, [], ◌∷◌, ◌++◌, length, take, drop, sym, ap, ◌∙◌, append_assoc, refl}
use Rattle.std.proofs.lemmas.List.{take-append-drop, take-map}
use Rattle.std.proofs.Math.Seq.{take-append_seam, drop-append_seam}
use Rattle.std.specs.Char.{to_ascii_lowercase}
use Rattle.domain_label.specs.Lowercase.{lowercase, lowercase_labels}
use Rattle.domain_label.specs.Wire.{wire, AreLabels}
use Rattle.domain_label.proofs.WireLaws.{wire_append}
use Rattle.domain_label.proofs.CanonicalForm.{lowercase_wire, lowercase_size}
use Rattle.domain_list.specs.Ends.{StartsWith}

no_octets : (n : ℕ) (o : List ℕ) → [] ≡ n ∷ o → ⊥
no_octets n o e = cc

head_same : (m n : ℕ) (o p : List ℕ) → m ∷ o ≡ n ∷ p → m ≡ n
head_same m n o p e = cc

rest_same : (m n : ℕ) (o p : List ℕ) → m ∷ o ≡ n ∷ p → o ≡ p
rest_same m n o p e = cc

-- lists with a common beginning, of one size
pub front_same : (x y o p : List ℕ) → length x ≡ length y → x ++ o ≡ y ++ p → x ≡ y
front_same x y o p n e = sym (take-append_seam x o) ∙ (ap (λ i. take i (x ++ o)) n ∙ (ap (λ r. take (length y) r) e ∙ take-append_seam y p))

pub back_same : (x y o p : List ℕ) → length x ≡ length y → x ++ o ≡ y ++ p → o ≡ p
back_same x y o p n e = sym (drop-append_seam x o) ∙ (ap (λ i. drop i (x ++ o)) n ∙ (ap (λ r. drop (length y) r) e ∙ drop-append_seam y p))

both_same : (x y : List ℕ) (xs zs : List (List ℕ)) → x ≡ y → xs ≡ zs → x ∷ xs ≡ y ∷ zs
both_same x y xs zs e f = cc

-- labels of which the octets begin with those of others begin with these
begins_wire : (xs ys : List (List ℕ)) (r : List ℕ) → wire xs ≡ wire ys ++ r → (rest : List (List ℕ)) × (xs ≡ ys ++ rest)
begins_wire xs [] r e = (xs, refl)
begins_wire [] (y ∷ ys) r e = absurd (no_octets (length y) ((y ++ wire ys) ++ r) e)
begins_wire (x ∷ xs) (y ∷ ys) r e =
    let n = head_same (length x) (length y) (x ++ wire xs) ((y ++ wire ys) ++ r) e in
    let o : x ++ wire xs ≡ y ++ (wire ys ++ r) = rest_same (length x) (length y) (x ++ wire xs) ((y ++ wire ys) ++ r) e ∙ append_assoc y (wire ys) r in
    let t = begins_wire xs ys r (back_same x y (wire xs) (wire ys ++ r) n o) in
    (t.0, both_same x y xs (ys ++ t.0) (front_same x y (wire xs) (wire ys ++ r) n o) t.1)

-- the first octets of a wire format, lowered
lowered_front : (xs : List (List ℕ)) (a : List ℕ) (n : ℕ) → a ≡ wire xs → AreLabels xs → lowercase (take n a) ≡ take n (wire (lowercase_labels xs))
lowered_front xs a n e m = sym (take-map to_ascii_lowercase n a) ∙ ap (λ o. take n o) (ap lowercase e ∙ lowercase_wire xs m)

-- wire formats of which one begins with the octets of the other are those of labels that do
pub starts_by_octets : (r : Bool) (xs ys : List (List ℕ)) (a b : List ℕ) → (IsTrue r ↔ (lowercase (take (length b) a) ≡ lowercase b)) → a ≡ wire xs → b ≡ wire ys → AreLabels xs → AreLabels ys → IsTrue r ↔ StartsWith xs ys
starts_by_octets r xs ys a b h e f m n =
    let us = lowercase_labels xs in
    let vs = lowercase_labels ys in
    let size : length b ≡ length (wire vs) = ap length f ∙ sym (lowercase_size ys) in
    let front : lowercase (take (length b) a) ≡ take (length (wire vs)) (wire us) = lowered_front xs a (length b) e m ∙ ap (λ i. take i (wire us)) size in
    let other : lowercase b ≡ wire vs = ap lowercase f ∙ lowercase_wire ys n in (
      λ t. let o : take (length (wire vs)) (wire us) ≡ wire vs = sym front ∙ (h.0 t ∙ other) in
          begins_wire us vs (drop (length (wire vs)) (wire us)) (sym (take-append-drop (length (wire vs)) (wire us)) ∙ ap (λ q. q ++ drop (length (wire vs)) (wire us)) o),
      λ p. h.1 (front ∙ (ap (λ o. take (length (wire vs)) o) (ap wire p.1 ∙ wire_append vs p.0) ∙ (take-append_seam (wire vs) (wire p.0) ∙ sym other))),
    )
