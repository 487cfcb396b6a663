-- The order of octets that others follow.
use Rattle.std.proofs.Common.{◌≡◌, ℕ, ◌<◌, Bool, true, false, List, [], ◌∷◌, ◌++◌, length, refl, sym, ap, ◌∙◌, subst, arith, append-nil, append_assoc}
use Rattle.std.specs.Cmp.{ranks}
use Rattle.std.specs.Cmp.Lexicographic.{slice_cmp}
use Rattle.std.specs.Ordering.{MatchOrdering, nat_cmp, ordering_then}
use Rattle.std.specs.declared.cmp.Ordering.{Ordering}
use Rattle.std.specs.declared.cmp.Ordering.TheVariants.{Less, Equal, Greater}
use Rattle.domain_flat.proofs.LabelsFromLeft.{absolute_once}
use Rattle.domain_label.proofs.CanonicalForm.{lowercase_absolute}
use Rattle.domain_label.specs.Wire.{wire, IsAbsolute, IsAbsoluteName}
use Rattle.domain_list.specs.Order.{composed_order}
use Rattle.domain_fields.specs.Cases.{cased_labels}

then_then : (o : Ordering) (r a b : Ordering) → (o ≡ Equal → r ≡ ordering_then a b) → ordering_then o r ≡ ordering_then (ordering_then o a) b
then_then Less r a b h = refl
then_then Equal r a b h = h refl
then_then Greater r a b h = refl

same_number : (x y : ℕ) → nat_cmp x y ≡ Equal → x ≡ y
same_number x y e = subst (λ o. MatchOrdering o (x < y) (x ≡ y) (y < x)) e (ranks x y)

-- Octets that none of the other octets go on from are compared first, and then what is after both.
pub apart_cmp : (x y s t : List ℕ) → ((a b : List ℕ) → x ++ a ≡ y ++ b → x ≡ y) → slice_cmp nat_cmp (x ++ s) (y ++ t) ≡ ordering_then (slice_cmp nat_cmp x y) (slice_cmp nat_cmp s t)
apart_cmp [] [] s t apart = refl
apart_cmp [] (d ∷ y) s t apart = let e : [] ≡ d ∷ y = apart (d ∷ y) [] (sym (append-nil (d ∷ y))) in absurd (omega (arith, ap length e))
apart_cmp (c ∷ x) [] s t apart = let e : c ∷ x ≡ [] = apart [] (c ∷ x) (append-nil (c ∷ x)) in absurd (omega (arith, ap length e))
apart_cmp (c ∷ x) (d ∷ y) s t apart =
    then_then (nat_cmp c d) (slice_cmp nat_cmp (x ++ s) (y ++ t)) (slice_cmp nat_cmp x y) (slice_cmp nat_cmp s t) (λ same. apart_cmp x y s t (after c d x y (same_number c d same) apart))
  where
    after : (c d : ℕ) (x y : List ℕ) → c ≡ d → ((a b : List ℕ) → c ∷ (x ++ a) ≡ d ∷ (y ++ b) → c ∷ x ≡ d ∷ y) → (a b : List ℕ) → x ++ a ≡ y ++ b → x ≡ y
    after c d x y e apart a b f = let g : c ∷ x ≡ d ∷ y = apart a b (cc) in cc

-- as many octets
pub as_many_cmp : (x y s t : List ℕ) → length x ≡ length y → slice_cmp nat_cmp (x ++ s) (y ++ t) ≡ ordering_then (slice_cmp nat_cmp x y) (slice_cmp nat_cmp s t)
as_many_cmp [] [] s t e = refl
as_many_cmp [] (d ∷ y) s t e = absurd (omega (arith, e))
as_many_cmp (c ∷ x) [] s t e = absurd (omega (arith, e))
as_many_cmp (c ∷ x) (d ∷ y) s t e = then_then (nat_cmp c d) (slice_cmp nat_cmp (x ++ s) (y ++ t)) (slice_cmp nat_cmp x y) (slice_cmp nat_cmp s t) (λ _. as_many_cmp x y s t (omega (arith, e)))

-- the same of an order that is known
pub as_many_followed : (x y : List ℕ) (r : Ordering) → r ≡ slice_cmp nat_cmp x y → length x ≡ length y → (s t : List ℕ) → slice_cmp nat_cmp (x ++ s) (y ++ t) ≡ ordering_then r (slice_cmp nat_cmp s t)
as_many_followed x y r e n s t = as_many_cmp x y s t n ∙ ap (λ o. ordering_then o (slice_cmp nat_cmp s t)) (sym e)

cased_absolute : (lowercase : Bool) (ls : List (List ℕ)) → IsAbsoluteName ls → IsAbsolute (cased_labels lowercase ls)
cased_absolute true ls name = lowercase_absolute ls name.0
cased_absolute false ls name = name.0

-- names in lowercase, or with their case
pub names_followed : (lowercase : Bool) (xs ys : List (List ℕ)) (r : Ordering) → r ≡ composed_order (cased_labels lowercase xs) (cased_labels lowercase ys) → IsAbsoluteName xs → IsAbsoluteName ys → (s t : List ℕ) → slice_cmp nat_cmp (wire (cased_labels lowercase xs) ++ s) (wire (cased_labels lowercase ys) ++ t) ≡ ordering_then r (slice_cmp nat_cmp s t)
names_followed lowercase xs ys r e a b s t =
    apart_cmp (wire (cased_labels lowercase xs)) (wire (cased_labels lowercase ys)) s t
    (λ p q same. ap wire (absolute_once (cased_labels lowercase xs) (cased_labels lowercase ys) p q (cased_absolute lowercase xs a) (cased_absolute lowercase ys b) same))
    ∙ ap (λ o. ordering_then o (slice_cmp nat_cmp s t)) (sym e)

grouped : (a b c d s t : List ℕ) → slice_cmp nat_cmp ((a ++ c) ++ s) ((b ++ d) ++ t) ≡ slice_cmp nat_cmp (a ++ (c ++ s)) (b ++ (d ++ t))
grouped a b c d s t = ap (λ l. slice_cmp nat_cmp l ((b ++ d) ++ t)) (append_assoc a c s) ∙ ap (λ l. slice_cmp nat_cmp (a ++ (c ++ s)) l) (append_assoc b d t)

-- one field after another that is the same in both
pub rest_order : (a b c d : List ℕ) (two : Ordering) → ((s t : List ℕ) → slice_cmp nat_cmp (a ++ s) (b ++ t) ≡ slice_cmp nat_cmp s t) → two ≡ slice_cmp nat_cmp c d → two ≡ slice_cmp nat_cmp (a ++ c) (b ++ d)
rest_order a b c d two first rest = rest ∙ sym (first c d)

pub rest_followed : (a b c d : List ℕ) (two : Ordering) → ((s t : List ℕ) → slice_cmp nat_cmp (a ++ s) (b ++ t) ≡ slice_cmp nat_cmp s t) → ((s t : List ℕ) → slice_cmp nat_cmp (c ++ s) (d ++ t) ≡ ordering_then two (slice_cmp nat_cmp s t)) → (s t : List ℕ) → slice_cmp nat_cmp ((a ++ c) ++ s) ((b ++ d) ++ t) ≡ ordering_then two (slice_cmp nat_cmp s t)
rest_followed a b c d two first rest s t = grouped a b c d s t ∙ (first (c ++ s) (d ++ t) ∙ rest s t)

kept : (o r : Ordering) → (o ≡ Equal → ⊥) → ordering_then o r ≡ o
kept Less r differs = refl
kept Equal r differs = absurd (differs refl)
kept Greater r differs = refl

-- one field after another that differs
pub first_order : (a b c d : List ℕ) (one : Ordering) → ((s t : List ℕ) → slice_cmp nat_cmp (a ++ s) (b ++ t) ≡ ordering_then one (slice_cmp nat_cmp s t)) → (one ≡ Equal → ⊥) → one ≡ slice_cmp nat_cmp (a ++ c) (b ++ d)
first_order a b c d one first differs = sym (first c d ∙ kept one (slice_cmp nat_cmp c d) differs)

pub first_followed : (a b c d : List ℕ) (one : Ordering) → ((s t : List ℕ) → slice_cmp nat_cmp (a ++ s) (b ++ t) ≡ ordering_then one (slice_cmp nat_cmp s t)) → (one ≡ Equal → ⊥) → (s t : List ℕ) → slice_cmp nat_cmp ((a ++ c) ++ s) ((b ++ d) ++ t) ≡ ordering_then one (slice_cmp nat_cmp s t)
first_followed a b c d one first differs s t =
    grouped a b c d s t ∙ (first (c ++ s) (d ++ t) ∙ (kept one (slice_cmp nat_cmp (c ++ s) (d ++ t)) differs ∙ sym (kept one (slice_cmp nat_cmp s t) differs)))
