-- A list that ends with another, told by how many octets each has.
use Rattle.std.proofs.Common.{◌≡◌, ℕ, ◌+◌, ◌≤◌, ◌<◌, ◌↔◌, List, [], ◌∷◌, ◌++◌, length, ap, arith, length-append}
use Rattle.domain_label.specs.Lowercase.{lowercase, lowercase_labels}
use Rattle.domain_label.specs.Wire.{wire}
use Rattle.domain_label.proofs.CanonicalForm.{lowercase_size}
use Rattle.domain_label.proofs.WireLaws.{wire_append}
use Rattle.domain_list.specs.Ends.{EndsWith}

-- how much longer the one is
pub front_size : (xs ys front : List (List ℕ)) → lowercase_labels xs ≡ front ++ lowercase_labels ys → length (wire xs) ≡ length (wire front) + length (wire ys)
front_size xs ys front e =
    omega (arith, lowercase_size xs, lowercase_size ys, ap (λ ls. length (wire ls)) e, ap (λ o. length o) (wire_append front (lowercase_labels ys)), length-append (wire front) (wire (lowercase_labels ys)))

after_first : (x : List ℕ) (xs ys front : List (List ℕ)) → lowercase_labels (x ∷ xs) ≡ front ++ lowercase_labels ys → length (wire ys) < length (wire (x ∷ xs)) → EndsWith xs ys
after_first x xs ys [] e more = absurd (omega (arith, more, front_size (x ∷ xs) ys [] e))
after_first x xs ys (f ∷ front) e more = (front, cc)

-- a label is passed over
pub passed_first : (xs ys rest : List (List ℕ)) (x : List ℕ) → xs ≡ x ∷ rest → length (wire ys) < length (wire xs) → EndsWith rest ys ↔ EndsWith xs ys
passed_first xs ys rest x e more = rw e (
  λ p. (lowercase x ∷ p.0, ap (λ r. lowercase x ∷ r) p.1),
  λ p. after_first x rest ys p.0 p.1 (omega (arith, more, ap (λ ls. length (wire ls)) e)),
)

no_front : (xs ys front : List (List ℕ)) → lowercase_labels xs ≡ front ++ lowercase_labels ys → length (wire xs) ≤ length (wire ys) → lowercase_labels xs ≡ lowercase_labels ys
no_front xs ys [] e few = e
no_front xs ys (f ∷ front) e few = absurd (omega (arith, few, front_size xs ys (f ∷ front) e))

-- where no more octets are left
pub ends_level : (xs ys : List (List ℕ)) → length (wire xs) ≤ length (wire ys) → (lowercase_labels xs ≡ lowercase_labels ys) ↔ EndsWith xs ys
ends_level xs ys few = (λ e. ([], e), λ p. no_front xs ys p.0 p.1 few)
