-- What octets that are the same without case say of labels.
use Rattle.std.proofs.Common.{◌≡◌, ◌↔◌, IsTrue, ℕ, Bool, ◌+◌, ◌≤◌, List, ◌++◌, length, drop, sym, ap, ◌∙◌, arith, length-append}
use Rattle.std.proofs.Math.Seq.{drop-append_seam}
use Rattle.std.specs.Cmp.Lexicographic.{slice_cmp}
use Rattle.std.specs.Ordering.{nat_cmp}
use Rattle.domain_label.specs.Lowercase.{lowercase, lowercase_labels, cmp_ignoring_case, as_writes}
use Rattle.domain_label.specs.Wire.{wire, AreLabels}
use Rattle.domain_label.proofs.WireLaws.{wire_append}
use Rattle.domain_label.proofs.CanonicalForm.{lowercase_wire, lowercase_wires}
use Rattle.domain_list.specs.NameLaws.{hash_input_is_wire}
use Rattle.domain_list.specs.HashInput.{name_hash_input}
use Rattle.domain_list.specs.Order.{lowercase_composed_order}

-- wire formats that are the same octet by octet are those of labels that are
pub same_labels_of : (r : Bool) (xs ys : List (List ℕ)) (a b : List ℕ) → (IsTrue r ↔ (lowercase a ≡ lowercase b)) → a ≡ wire xs → b ≡ wire ys → AreLabels xs → AreLabels ys → IsTrue r ↔ (lowercase_labels xs ≡ lowercase_labels ys)
same_labels_of r xs ys a b h e f m n =
    let w = lowercase_wires xs ys m n in
    (λ t. w.0 (sym (ap lowercase e) ∙ (h.0 t ∙ ap lowercase f)), λ p. h.1 (ap lowercase e ∙ (w.1 p ∙ sym (ap lowercase f))))

-- the last octets of a wire format, as many as its last labels have
pub last_of_wire : (o : List ℕ) (all front rest : List (List ℕ)) (n : ℕ) → o ≡ wire all → all ≡ front ++ rest → n + length (wire rest) ≡ length o → drop n o ≡ wire rest
last_of_wire o all front rest n e f m =
    let w : o ≡ wire front ++ wire rest = e ∙ (ap wire f ∙ wire_append front rest) in
    let k : n ≡ length (wire front) = omega (arith, m, ap length w, length-append (wire front) (wire rest)) in
    ap (λ i. drop i o) k ∙ (ap (λ r. drop (length (wire front)) r) w ∙ drop-append_seam (wire front) (wire rest))

-- the order of lowered wire formats is that of the labels' wire formats
pub low_orders : (a b : List ℕ) (xs ys : List (List ℕ)) → a ≡ wire xs → b ≡ wire ys → AreLabels xs → AreLabels ys → cmp_ignoring_case a b ≡ lowercase_composed_order xs ys
low_orders a b xs ys e f m n =
    ap (λ o. slice_cmp nat_cmp o (lowercase b)) (ap lowercase e ∙ lowercase_wire xs m) ∙ ap (λ o. slice_cmp nat_cmp (wire (lowercase_labels xs)) o) (ap lowercase f ∙ lowercase_wire ys n)

-- what lowered octets feed
pub lowercase_hash_input : (o : List ℕ) (ls : List (List ℕ)) → o ≡ wire ls → AreLabels ls → as_writes (lowercase o) ≡ name_hash_input ls
lowercase_hash_input o ls e m = ap as_writes (ap lowercase e ∙ lowercase_wire ls m) ∙ sym (hash_input_is_wire ls)

-- a name has as many octets as its last labels have, at least
pub end_fits : (o p : List ℕ) (all front rest ys : List (List ℕ)) → o ≡ wire all → all ≡ front ++ rest → p ≡ wire ys → length (wire rest) ≡ length (wire ys) → length p ≤ length o
end_fits o p all front rest ys e f h k =
    omega (arith, k, ap length h, ap length (e ∙ (ap wire f ∙ wire_append front rest)), length-append (wire front) (wire rest))
