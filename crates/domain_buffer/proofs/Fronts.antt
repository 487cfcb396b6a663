-- Names that octets begin with, and the fields of data.
use Rattle.std.proofs.Common.{◌≡◌, ℕ, inl, inr, List, ◌++◌, length, take, drop, refl, sym, ap, subst, ◌∙◌, arith, length-append}
use Rattle.std.specs.Prelude.{IfSome, Option, Some}
use Rattle.std.proofs.Math.Seq.{take-append_seam, drop-append_seam}
use Rattle.domain_label.specs.Wire.{wire, labels_in, IsAbsoluteName, IsAbsoluteWire}
use Rattle.domain_label.proofs.WireLaws.{wire_absolute}
use Rattle.domain_flat.proofs.LabelsFromLeft.{absolute_once}
use Rattle.domain_buffer.specs.declared.data.Shape.{Shape}
use Rattle.domain_buffer.specs.Data.{Fields, whole, compressed_shape, IsSecond, IsNamed, IsNameFront, IsSecondFront, HasNoSecondFront}

-- The name that was found is the only one.
pub front_of : (octets : List ℕ) (n : ℕ) (ls : List (List ℕ)) (rest : List ℕ) → IsAbsoluteName ls → octets ≡ wire ls ++ rest → n ≡ length (wire ls) → IsNameFront octets n
front_of octets n ls rest name parts size = record {
  inside = omega (arith, size, ap length parts, length-append (wire ls) rest);
  name = subst IsAbsoluteWire (sym (ap (λ o. take n o) parts ∙ (ap (λ k. take k (wire ls ++ rest)) size ∙ take-append_seam (wire ls) rest))) (wire_absolute ls name);
  only = λ other after wired split.
      let same : ls ≡ labels_in other = absolute_once ls (labels_in other) rest after name.0 wired.1.0 (sym parts ∙ (split ∙ ap (λ o. o ++ after) (sym wired.0))) in
      ap length (sym wired.0) ∙ (ap (λ xs. length (wire xs)) (sym same) ∙ sym size);
}

-- what comes after the first octets
after_first : (octets a b : List ℕ) (n : ℕ) → octets ≡ a ++ b → length a ≡ n → drop n octets ≡ b
after_first octets a b n parts size = ap (drop n) parts ∙ (ap (λ k. drop k (a ++ b)) (sym size) ∙ drop-append_seam a b)

-- the shape of a type is one
same_shape : (rtype : ℕ) (form other : Shape) → compressed_shape rtype ≡ Some form → compressed_shape rtype ≡ Some other → other ≡ form
same_shape rtype form other known also =
    let P : Option Shape → Type 0 = λ o. IfSome o (λ s. s ≡ form) in
    let here : P (Some form) = refl in
    subst P also (subst P (sym known) here)

names_after : (rtype : ℕ) (octets : List ℕ) (form : Shape) (f : Fields) → compressed_shape rtype ≡ Some form → IsNamed rtype f → whole f ≡ octets → drop form.before octets ≡ f.first ++ (f.second ++ f.after)
names_after rtype octets form f known n all =
    let same = same_shape rtype form n.form known n.known in
    after_first octets f.before (f.first ++ (f.second ++ f.after)) form.before (sym all) (n.before ∙ ap (λ (s : Shape). s.before) same)

second_of : (rtype : ℕ) (form : Shape) (f : Fields) → compressed_shape rtype ≡ Some form → IsNamed rtype f → IsSecond form.names f.second
second_of rtype form f known n = subst (λ (s : Shape). IsSecond s.names f.second) (same_shape rtype form n.form known n.known) n.second

second_size : (names : ℕ) (octets second after : List ℕ) (k : ℕ) → IsSecond names second → IsSecondFront names octets k → octets ≡ second ++ after → length second ≡ k
second_size names octets second after k is front parts = elim is [
  | inl one ↦ elim front [
    | inl also ↦ ap length one.1 ∙ sym also.1
    | inr two ↦ absurd (omega (arith, one.0, two.0))
  ]
  | inr two ↦ elim front [
    | inl one ↦ absurd (omega (arith, one.0, two.0))
    | inr also ↦ also.1.only second after two.1 parts
  ]
]

-- What follows the names is of another size, so they aren't such data.
pub wrong_after : (rtype : ℕ) (octets : List ℕ) (form : Shape) (k m : ℕ) (names rest after : List ℕ) → compressed_shape rtype ≡ Some form → names ≡ drop form.before octets → rest ≡ drop k names → after ≡ drop m rest → IsNameFront names k → IsSecondFront form.names rest m → (length after ≡ form.after → ⊥)
    → (f : Fields) → IsNamed rtype f → whole f ≡ octets → ⊥
wrong_after rtype octets form k m names rest after known begin other end front second wrong f n all =
    let parts : names ≡ f.first ++ (f.second ++ f.after) = begin ∙ names_after rtype octets form f known n all in
    let tail : rest ≡ f.second ++ f.after = other ∙ after_first names f.first (f.second ++ f.after) k parts (front.only f.first (f.second ++ f.after) n.first parts) in
    let size = second_size form.names rest f.second f.after m (second_of rtype form f known n) second tail in
    let left : after ≡ f.after = end ∙ after_first rest f.second f.after m tail size in
    wrong (ap length left ∙ (n.after ∙ ap (λ (s : Shape). s.after) (same_shape rtype form n.form known n.known)))

-- After the first name there is neither nothing nor a name, as there should be, so they aren't such data.
pub no_second : (rtype : ℕ) (octets : List ℕ) (form : Shape) (k : ℕ) (names rest : List ℕ) → compressed_shape rtype ≡ Some form → names ≡ drop form.before octets → rest ≡ drop k names → IsNameFront names k → HasNoSecondFront form.names rest
    → (f : Fields) → IsNamed rtype f → whole f ≡ octets → ⊥
no_second rtype octets form k names rest known begin other front none f n all =
    let parts : names ≡ f.first ++ (f.second ++ f.after) = begin ∙ names_after rtype octets form f known n all in
    let tail : rest ≡ f.second ++ f.after = other ∙ after_first names f.first (f.second ++ f.after) k parts (front.only f.first (f.second ++ f.after) n.first parts) in
    elim (second_of rtype form f known n) [
      | inl one ↦ none.0 one.0
      | inr two ↦ none.1 two.0 f.second f.after two.1 tail
    ]
