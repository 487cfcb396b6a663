-- Where the first label of a name stands.
use Rattle.std.proofs.Common.{◌≡◌, ℕ, ◌+◌, ◌≤◌, ◌<◌, List, [], ◌∷◌, ◌++◌, length, slice_index, slice_range, sym, ap, ◌∙◌, arith, append-nil}
use Rattle.domain_label.specs.Wire.{wire, IsRelativeName}
use Rattle.domain_reading.specs.Offsets.{IsLabelOffset, label_at}
use Rattle.domain_reading.proofs.LabelsAt.{slice_join, slice_one}

-- a label with its length octet stands from its offset on
pub record Standing (m l : List ℕ) (start after : ℕ) : Type 0 where
  pub ordered : start ≤ after
  pub inside : after ≤ length m
  pub stands : slice_range m start after ≡ wire (l ∷ [])

pub standing : (m l : List ℕ) (p len : ℕ) → IsLabelOffset m p → slice_index m p ≡ length l → label_at m p ≡ l → len ≡ length l + 1 → Standing m l p (p + len)
standing m l p len is head octets e =
    let end : p + 1 + length l ≡ p + len = omega (arith, e) in
    let one = slice_one m p (omega (arith, is.1)) ∙ ap (λ o. o ∷ []) head in
    let all = slice_join m p (p + 1) (p + 1 + length l) (omega arith) (omega arith) (omega (arith, is.1, head)) ∙ (ap (λ o. o ++ slice_range m (p + 1) (p + 1 + length l)) one ∙ ap (λ r. length l ∷ r) (ap (λ n. slice_range m (p + 1) (p + 1 + n)) (sym head) ∙ octets ∙ sym (append-nil l))) in
    record {
      ordered = omega arith;
      inside = omega (arith, is.1, head, e);
      stands = ap (λ b. slice_range m p b) (sym end) ∙ all;
    }

pub one_relative : (l : List ℕ) → 0 < length l → length l < 64 → IsRelativeName (l ∷ [])
one_relative [] some short = absurd (omega (arith, some))
one_relative (c ∷ l) some short = ((omega (arith, short), tt), omega (arith, short, ap length (append-nil l)))
