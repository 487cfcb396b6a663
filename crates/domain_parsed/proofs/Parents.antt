-- A name without its first label.
use Rattle.std.proofs.Common.{◌≡◌, ℕ, ◌+◌, ◌-◌, ◌≤◌, ◌<◌, inl, inr, List, [], ◌∷◌, ◌++◌, length, drop, Bool, false, nat_eq, ◌↔◌, slice_range, slice_index, refl, sym, ap, subst, arith, ◌∙◌, length-append, length-take, length-drop}
use Rattle.std.proofs.lemmas.Grind.{common_steps}
use Rattle.std.proofs.Math.Seq.{drop-append_seam}
use Rattle.std.proofs.lemmas.Bool.{false≢true}
use Rattle.std.proofs.lemmas.Bool.Decides.{eqb_tells}
use Rattle.std.specs.Bool.{IsTrue}
use Rattle.domain_label.specs.Wire.{wire, Root, IsAbsolute, IsAbsoluteName}
use Rattle.domain_reading.proofs.LabelsAt.{slice_join, slice_one}

pub flat_tail : (m l w : List ℕ) (p n : ℕ) → p + n ≤ length m → slice_range m p (p + n) ≡ length l ∷ (l ++ w) → (slice_index m p ≡ length l) × (slice_range m (p + 1 + length l) (p + n) ≡ w)
flat_tail m l w p n inside e =
    let len : length (slice_range m p (p + n)) ≡ length (length l ∷ (l ++ w)) = ap (λ xs. length xs) e in
    let size : length (slice_range m p (p + n)) ≡ n = grind (arith, common_steps) in
    let room : 1 + length l ≤ n = omega (arith, len, size, length-append l w) in
    let one = slice_join m p (p + 1) (p + n) (omega arith) (omega arith) inside in
    let two = slice_join m (p + 1) (p + 1 + length l) (p + n) (omega arith) (omega arith) inside in
    let head = slice_one m p (omega arith) in
    let both : slice_index m p ∷ slice_range m (p + 1) (p + n) ≡ length l ∷ (l ++ w) = sym (one ∙ ap (λ xs. xs ++ slice_range m (p + 1) (p + n)) head) ∙ e in
    let same : slice_range m (p + 1) (p + n) ≡ l ++ w = cc in
    let a = slice_range m (p + 1) (p + 1 + length l) in
    let b = slice_range m (p + 1 + length l) (p + n) in
    let k : length a ≡ length l = grind (arith, common_steps) in
    let rest : b ≡ w = sym (drop-append_seam a b) ∙ ap (λ j. drop j (a ++ b)) k ∙ ap (λ xs. drop (length l) xs) (sym two ∙ same) ∙ drop-append_seam l w in
    (cc, rest)

some_octets : (ls : List (List ℕ)) → IsAbsolute ls → 1 ≤ length (wire ls)
some_octets [] a = absurd a
some_octets (l ∷ ls) a = omega arith

-- the octets of a name that lies in one piece are all there
pub flat_inside : (m : List ℕ) (p n : ℕ) (ls : List (List ℕ)) → IsAbsolute ls → n ≡ length (wire ls) → slice_range m p (p + n) ≡ wire ls → p + n ≤ length m
flat_inside m p n ls a sized flat =
    let len : length (slice_range m p (p + n)) ≡ n = ap (λ xs. length xs) flat ∙ sym sized in
    let cut : length (slice_range m p (p + n)) ≤ length m - p = simp (length-take, length-drop) (omega arith) in
    omega (arith, len, cut, some_octets ls a)

-- the root alone has one octet
one_octet : (ls : List (List ℕ)) → IsAbsolute ls → length (wire ls) ≡ 1 → ls ≡ Root
one_octet [] a e = absurd a
one_octet ([] ∷ ls) a e = ap (λ ls. [] ∷ ls) a
one_octet ((c ∷ l) ∷ ls) a e = absurd (omega (arith, e))

pub root_tells : (n : ℕ) (ls : List (List ℕ)) → IsAbsolute ls → n ≡ length (wire ls) → IsTrue (nat_eq n 1) ↔ (ls ≡ Root)
root_tells n ls a sized = elim (eqb_tells n 1) [
  | inl one ↦ rw one.0 (λ _. one_octet ls a (sym sized ∙ one.1), λ _. refl)
  | inr more ↦ rw more.0 (λ h. absurd (false≢true h), λ e. absurd (more.1 (sized ∙ ap (λ ls. length (wire ls)) e)))
]

-- the root is last
pub ends_in_root : (ls : List (List ℕ)) → IsAbsolute ls → (l : List ℕ) → l ≡ [] → (front : List (List ℕ)) × (ls ≡ front ++ l ∷ [])
ends_in_root [] a l e = absurd a
ends_in_root ([] ∷ ls) a l e = ([], ap (λ ls. [] ∷ ls) a ∙ ap (λ l. l ∷ []) (sym e))
ends_in_root ((c ∷ k) ∷ ls) a l e = let r = ends_in_root ls a.1 l e in ((c ∷ k) ∷ r.0, ap (λ ls. (c ∷ k) ∷ ls) r.1)

many_from : (ls : List (List ℕ)) → IsAbsolute ls → (ls ≡ Root → ⊥) → 1 < length ls
many_from [] a more = absurd a
many_from ([] ∷ ls) a more = absurd (more (ap (λ ls. [] ∷ ls) a))
many_from ((c ∷ l) ∷ []) a more = absurd a.1
many_from ((c ∷ l) ∷ k ∷ ls) a more = omega arith

-- a name that isn't the root has more labels than one
pub many_labels : (ls : List (List ℕ)) → IsAbsolute ls → (ls ≡ Root → ⊥) → 1 < length ls
many_labels = many_from

pub not_so : {b : Bool} {P : Type 0} → (IsTrue b ↔ P) → b ≡ false → P → ⊥
not_so tells f p = false≢true (sym f ∙ tells.1 p)

-- what is left after the first label
pub record Rest (l : List ℕ) (ls : List (List ℕ)) (n : ℕ) : Type 0 where
  pub nonempty : 0 < length l
  pub short : length l < 64
  pub fits : length l < n
  pub absolute : IsAbsoluteName ls
  pub sized : n - (length l + 1) ≡ length (wire ls)

pub rest_of : (l : List ℕ) (ls : List (List ℕ)) (n : ℕ) → IsAbsoluteName (l ∷ ls) → n ≡ length (wire (l ∷ ls)) → (l ∷ ls ≡ Root → ⊥) → Rest l ls n
rest_of [] ls n a e more = absurd (more (ap (λ ls. [] ∷ ls) a.0))
rest_of (c ∷ l) ls n a e more =
    let len = length-append (c ∷ l) (wire ls) in
    record {
      nonempty = omega arith;
      short = omega (arith, a.0.0);
      fits = omega (arith, e, len);
      absolute = (a.0.1, omega (arith, a.1, len));
      sized = omega (arith, e, len);
    }

pub flat_rest : (m l : List ℕ) (ls : List (List ℕ)) (p n q r : ℕ) → p + n ≤ length m → length l < n → slice_range m p (p + n) ≡ wire (l ∷ ls) → q ≡ p + (length l + 1) → r ≡ p + n → slice_range m q r ≡ wire ls
flat_rest m l ls p n q r inside fits flat e f =
    let t = flat_tail m l (wire ls) p n inside flat in
    let a : p + 1 + length l ≡ q = omega (arith, e) in
    rw f (subst (λ q. slice_range m q (p + n) ≡ wire ls) a t.1)
