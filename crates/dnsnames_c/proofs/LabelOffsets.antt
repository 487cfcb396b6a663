-- The labels before an offset of a name.
use Rattle.std.proofs.Common.{◌≡◌, ℕ, ◌+◌, List, [], ◌∷◌, ◌++◌, length, take, ap, sym, ◌∙◌, arith, append_assoc, length-append}
use Rattle.std.proofs.Math.Seq.{take-append_seam}
use Rattle.domain_label.specs.Wire.{wire, labels_in}
use Rattle.domain_label.proofs.WireLaws.{length-wire_append}

-- One label more is before it.
pub one_more_before : (ls xs rs bs : List (List ℕ)) (l : List ℕ) (n : ℕ) → ls ≡ xs ++ rs → rs ≡ l ∷ bs → length xs ≡ n → (ys : List (List ℕ)) × (ls ≡ ys ++ bs) × (length ys ≡ n + 1)
one_more_before ls xs rs bs l n e f h = (xs ++ l ∷ [], e ∙ (ap (λ r. xs ++ r) f ∙ sym (append_assoc xs (l ∷ []) bs)), omega (arith, h, length-append xs (l ∷ [])))

pub size_before : (o rest : List ℕ) (xs : List (List ℕ)) → wire (labels_in o) ≡ o → labels_in o ≡ xs ++ labels_in rest → wire (labels_in rest) ≡ rest → length o ≡ length (wire xs) + length rest
size_before o rest xs w e v = omega (arith, ap length w, ap (λ ls. length (wire ls)) e, length-wire_append xs (labels_in rest), ap length v)

pub taken_before : (ls xs rs : List (List ℕ)) (n : ℕ) → ls ≡ xs ++ rs → length xs ≡ n → take n ls ≡ xs
taken_before ls xs rs n e h = ap (take n) e ∙ (ap (λ k. take k (xs ++ rs)) (sym h) ∙ take-append_seam xs rs)
