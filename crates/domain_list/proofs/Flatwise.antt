-- Labels against the octets of a wire format.
use Rattle.std.proofs.Common.{◌≡◌, ◌↔◌, ℕ, suc, ◌+◌, ◌-◌, ◌≤◌, List, [], ◌∷◌, ◌++◌, length, take, drop, slice_index, sym, ap, subst, ◌∙◌, arith, length-append}
use Rattle.std.proofs.lemmas.Grind.{common_steps}
use Rattle.std.proofs.lemmas.List.{map-append, take-append-drop, length-map, length-take-le}
use Rattle.std.proofs.Math.Seq.{drop-append_seam, take-append_seam}
use Rattle.std.specs.Char.{to_ascii_lowercase}
use Rattle.domain_label.specs.Lowercase.{lowercase}
use Rattle.domain_label.specs.Wire.{wire, IsLabel, AreLabels}
use Rattle.domain_label.proofs.ComparedOctets.{sliced_end}

-- fronts of one length, and what is behind them
two_parts : (a b c d : List ℕ) → length a ≡ length c → a ++ b ≡ c ++ d → (a ≡ c) × (b ≡ d)
two_parts a b c d e f = (
  sym (take-append_seam a b) ∙ (ap (take (length a)) f ∙ (ap (λ n. take n (c ++ d)) e ∙ take-append_seam c d)),
  sym (drop-append_seam a b) ∙ (ap (drop (length a)) f ∙ (ap (λ n. drop n (c ++ d)) e ∙ drop-append_seam c d)),
)

-- a length octet is its own lower case, and no other octet's
length_alone : (x n : ℕ) → n ≤ 63 → to_ascii_lowercase x ≡ to_ascii_lowercase n → x ≡ n
length_alone x n h e = grind arith

-- what a first octet, a label and the rest are
pub record Begins (x : ℕ) (t l w : List ℕ) : Type 0 where
  pub head : x ≡ length l
  pub label : lowercase (take (length l) t) ≡ lowercase l
  pub rest : lowercase (drop (length l) t) ≡ lowercase w

pub begins : (x : ℕ) (t l w : List ℕ) → IsLabel l → length l ≤ length t → (lowercase (x ∷ t) ≡ lowercase (length l ∷ (l ++ w))) ↔ Begins x t l w
begins x t l w short size =
    let n = length l in
    let split : lowercase t ≡ lowercase (take n t) ++ lowercase (drop n t) = ap lowercase (sym (take-append-drop n t)) ∙ map-append to_ascii_lowercase (take n t) (drop n t) in
    let both : lowercase (l ++ w) ≡ lowercase l ++ lowercase w = map-append to_ascii_lowercase l w in
    let level : length (lowercase (take n t)) ≡ length (lowercase l) = length-map (take n t) to_ascii_lowercase ∙ (length-take-le n t size ∙ sym (length-map l to_ascii_lowercase)) in (
      λ e.
          let tail : lowercase t ≡ lowercase (l ++ w) = cc in
          let head : to_ascii_lowercase x ≡ to_ascii_lowercase n = cc in
          let parts = two_parts (lowercase (take n t)) (lowercase (drop n t)) (lowercase l) (lowercase w) level (sym split ∙ (tail ∙ both)) in
          record { head = length_alone x n short head; label = parts.0; rest = parts.1 },
      λ b. ap (λ y. to_ascii_lowercase y ∷ lowercase t) b.head ∙ ap (λ r. to_ascii_lowercase n ∷ r) (split ∙ (ap (λ r. r ++ lowercase (drop n t)) b.label ∙ (ap (λ r. lowercase l ++ r) b.rest ∙ sym both))),
    )

behind : (t l w : List ℕ) → length t ≡ length (l ++ w) → length (drop (length l) t) ≡ length w
behind t l w e =
    let both : length (l ++ w) ≡ length l + length w = length-append l w in
    grind (arith, common_steps)

-- what is left of a wire format behind its first label
pub record Steps (o p : List ℕ) (xs ls : List (List ℕ)) : Type 0 where
  pub size : length p ≡ length (wire ls)
  pub short : AreLabels ls
  pub same : (lowercase o ≡ lowercase (wire xs)) ↔ (lowercase p ≡ lowercase (wire ls))

first_step : (o l : List ℕ) (ls : List (List ℕ)) (k : ℕ) → k ≡ 1 + length l → slice_index o 0 ≡ length l → lowercase (take (k - 1) (drop 1 o)) ≡ lowercase l → AreLabels (l ∷ ls) → length o ≡ length (wire (l ∷ ls)) → Steps o (take (length o - k) (drop k o)) (l ∷ ls) ls
first_step [] l ls k e h same a size = absurd (omega (arith, size))
first_step (x ∷ t) l ls k e h same a size =
    let fits : length l ≤ length t = omega (arith, size, length-append l (wire ls)) in
    let one_less : k - 1 ≡ length l = omega (arith, e) in
    let back : k ≡ suc (length l) = omega (arith, e) in
    let end : take (length (x ∷ t) - k) (drop k (x ∷ t)) ≡ drop (length l) t = sliced_end (x ∷ t) k (omega (arith, back, fits)) ∙ ap (λ i. drop i (x ∷ t)) back in
    let label : lowercase (take (length l) t) ≡ lowercase l = ap (λ i. lowercase (take i t)) (sym one_less) ∙ same in
    let b = begins x t l (wire ls) a.0 fits in
    record {
      size = ap length end ∙ behind t l (wire ls) (omega (arith, size));
      short = a.1;
      same = (
        λ e. ap lowercase end ∙ (b.0 e).rest,
        λ e. b.1 (record { head = h; label = label; rest = sym (ap lowercase end) ∙ e }),
      );
    }

first_label : (o l : List ℕ) (ls : List (List ℕ)) (k : ℕ) → k ≡ 1 + length l → AreLabels (l ∷ ls) → length o ≡ length (wire (l ∷ ls)) → lowercase o ≡ lowercase (wire (l ∷ ls)) → (slice_index o 0 ≡ length l) × (lowercase (take (k - 1) (drop 1 o)) ≡ lowercase l)
first_label [] l ls k e a size same = absurd (omega (arith, size))
first_label (x ∷ t) l ls k e a size same =
    let fits : length l ≤ length t = omega (arith, size, length-append l (wire ls)) in
    let one_less : k - 1 ≡ length l = omega (arith, e) in
    let b = (begins x t l (wire ls) a.0 fits).0 same in
    (b.head, ap (λ i. lowercase (take i t)) one_less ∙ b.label)

-- the first label is the one that stands there
pub step : (o l : List ℕ) (xs ls : List (List ℕ)) (k : ℕ) → xs ≡ l ∷ ls → AreLabels xs → length o ≡ length (wire xs) → k ≡ 1 + length l → slice_index o 0 ≡ length l → lowercase (take (k - 1) (drop 1 o)) ≡ lowercase l → Steps o (take (length o - k) (drop k o)) xs ls
step o l xs ls k e = subst (λ ys. AreLabels ys → length o ≡ length (wire ys) → k ≡ 1 + length l → slice_index o 0 ≡ length l → lowercase (take (k - 1) (drop 1 o)) ≡ lowercase l → Steps o (take (length o - k) (drop k o)) ys ls) (sym e) (λ a size f h same. first_step o l ls k f h same a size)

-- where all is the same, the first label is
pub label_same : (o l : List ℕ) (xs ls : List (List ℕ)) (k : ℕ) → xs ≡ l ∷ ls → AreLabels xs → length o ≡ length (wire xs) → k ≡ 1 + length l → lowercase o ≡ lowercase (wire xs) → (slice_index o 0 ≡ length l) × (lowercase (take (k - 1) (drop 1 o)) ≡ lowercase l)
label_same o l xs ls k e = subst (λ ys. AreLabels ys → length o ≡ length (wire ys) → k ≡ 1 + length l → lowercase o ≡ lowercase (wire ys) → (slice_index o 0 ≡ length l) × (lowercase (take (k - 1) (drop 1 o)) ≡ lowercase l)) (sym e) (λ a size f same. first_label o l ls k f a size same)
