-- Octets are SOA data in one way.
use Rattle.std.proofs.Common.{◌≡◌, ℕ, List, [], ◌∷◌, ◌++◌, length, drop, sym, ap, ◌∙◌}
use Rattle.std.specs.Int.{w32, from_be_bytes}
use Rattle.domain_flat.proofs.LabelsFromLeft.{absolute_once}
use Rattle.domain_label.specs.Wire.{wire, IsAbsolute, IsAbsoluteName}
use Rattle.domain_zone_answer.specs.Sections.{IsSoaData}

rest_same : {A : Type 0} (x y : A) (xs ys : List A) → x ∷ xs ≡ y ∷ ys → xs ≡ ys
rest_same x y xs ys e = cc

without_front : (xs a b : List ℕ) → xs ++ a ≡ xs ++ b → a ≡ b
without_front [] a b e = e
without_front (x ∷ xs) a b e = without_front xs a b (rest_same x x (xs ++ a) (xs ++ b) e)

-- what is after a name that octets begin with
one_rest : (xs ys : List (List ℕ)) (a b : List ℕ) → IsAbsolute xs → IsAbsolute ys → wire xs ++ a ≡ wire ys ++ b → a ≡ b
one_rest xs ys a b h k e = without_front (wire xs) a b (e ∙ ap (λ ls. wire ls ++ b) (sym (absolute_once xs ys a b h k e)))

after_mname : (o rest : List ℕ) (ls : List (List ℕ)) (m : ℕ) → IsAbsoluteName ls → o ≡ wire ls ++ rest → (d : IsSoaData o m) → rest ≡ wire d.rname ++ d.numbers
after_mname o rest ls m a e d = one_rest ls d.mname rest (wire d.rname ++ d.numbers) a.0 d.names.0.0 (sym e ∙ d.parts)

-- without a second name they are none
pub no_rname : (o rest : List ℕ) (ls : List (List ℕ)) (m : ℕ) → IsAbsoluteName ls → o ≡ wire ls ++ rest
    → ((ks : List (List ℕ)) (more : List ℕ) → IsAbsoluteName ks → rest ≡ wire ks ++ more → ⊥) → IsSoaData o m → ⊥
no_rname o rest ls m a e n d = n d.rname d.numbers d.names.1 (after_mname o rest ls m a e d)

-- nor with numbers of another length
pub no_numbers : (o rest numbers : List ℕ) (ls ks : List (List ℕ)) (m : ℕ) → IsAbsoluteName ls → o ≡ wire ls ++ rest → IsAbsoluteName ks
    → rest ≡ wire ks ++ numbers → (length numbers ≡ 20 → ⊥) → IsSoaData o m → ⊥
no_numbers o rest numbers ls ks m a e b f n d =
    n (ap (λ l. length l) (one_rest ks d.rname numbers d.numbers b.0 d.names.1.0 (sym f ∙ after_mname o rest ls m a e d)) ∙ d.size)

-- and they have one MINIMUM
pub one_minimum : (o : List ℕ) (m n : ℕ) → IsSoaData o m → IsSoaData o n → m ≡ n
one_minimum o m n d e =
    let rest = after_mname o (wire d.rname ++ d.numbers) d.mname n d.names.0 d.parts e in
    let same : d.numbers ≡ e.numbers = one_rest d.rname e.rname d.numbers e.numbers d.names.1.0 e.names.1.0 rest in
    d.last ∙ (ap (λ l. from_be_bytes w32 (drop 16 l)) same ∙ sym e.last)
