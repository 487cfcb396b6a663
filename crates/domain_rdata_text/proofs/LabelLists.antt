-- Going over the labels of a name.
use Rattle.std.proofs.Common.{◌≡◌, ◌∙◌, ℕ, ◌≤◌, List, [], ◌∷◌, ◌++◌, length, refl, sym, subst, ap, append_assoc, arith}
use Rattle.domain_label.specs.Wire.{wire, Root, IsAbsolute}
use Rattle.domain_rdata_text.specs.Values.{counted}

-- one label more was taken
pub label_more : (all done left : List (List ℕ)) (l : List ℕ) (rest : List (List ℕ)) → all ≡ done ++ left → left ≡ l ∷ rest → all ≡ (done ++ l ∷ []) ++ rest
label_more all done left l rest e f = e ∙ ap (λ (x : List (List ℕ)). done ++ x) f ∙ sym (append_assoc done (l ∷ []) rest)

-- and its octets
pub octets_more : (all done : List ℕ) (left : List (List ℕ)) (l : List ℕ) (rest : List (List ℕ)) → all ≡ done ++ wire left → left ≡ l ∷ rest → all ≡ (done ++ counted l) ++ wire rest
octets_more all done left l rest e f = e ∙ ap (λ (x : List (List ℕ)). done ++ wire x) f ∙ sym (append_assoc done (counted l) (wire rest))

some_label : (l : List ℕ) (rest : List (List ℕ)) → (l ≡ [] → ⊥) → IsAbsolute (l ∷ rest) → (length l ≤ 255) × IsAbsolute rest
some_label [] rest some a = absurd (some refl)
some_label (c ∷ l) rest some a = (omega (arith, a.0), a.1)

-- a label that isn't the root is short, and others follow
pub not_last : (left : List (List ℕ)) (l : List ℕ) (rest : List (List ℕ)) → left ≡ l ∷ rest → (l ≡ [] → ⊥) → IsAbsolute left → (length l ≤ 255) × IsAbsolute rest
not_last left l rest e some a = some_label l rest some (subst IsAbsolute e a)

-- the root is the last
pub last_left : (left : List (List ℕ)) (l : List ℕ) (rest : List (List ℕ)) → left ≡ l ∷ rest → l ≡ [] → IsAbsolute left → left ≡ Root
last_left left l rest e is a =
    let f : left ≡ [] ∷ rest = e ∙ ap (λ (x : List ℕ). x ∷ rest) is in
    let none : rest ≡ [] = subst IsAbsolute f a in
    f ∙ ap (λ (x : List (List ℕ)). [] ∷ x) none

-- and it comes
pub never_ends : (left : List (List ℕ)) → left ≡ [] → IsAbsolute left → ⊥
never_ends left none a = subst IsAbsolute none a
