-- Character strings in octets (RFC 1035, 3.3).
use Rattle.std.specs.Prelude.{◌≡◌, ℕ, ◌+◌, ◌<◌, ◌≤◌, List, length, slice_index, slice_range}
use Rattle.std.proofs.Common.{arith, ap, sym, ◌∙◌}
use Rattle.domain_wire.specs.declared.error.ParseError.{ParseError}
use Rattle.domain_wire.specs.declared.error.ParseError.TheVariants.{ShortInput}
use Rattle.domain_wire.specs.Refusals.{refusal}
use Rattle.domain_wire.specs.Values.{IsReading}

-- a length octet stands at p, the octets s of that length after it, and e is the offset after them
pub record StringAt (m : List ℕ) (p : ℕ) (s : List ℕ) (e : ℕ) : Type 0 where
  pub head : slice_index m p ≡ length s
  pub octets : s ≡ slice_range m (p + 1) (p + 1 + length s)
  pub after : e ≡ p + 1 + length s
  pub whole : e ≤ length m

-- the length octet or one of the octets after it is missing
pub record StringTooShort (m : List ℕ) (p : ℕ) (why : ParseError) : Type 0 where
  pub cut : length m < p + 1 + slice_index m p
  pub told : why ≡ ShortInput

one_string : (m : List ℕ) (p : ℕ) (a b : List ℕ) (e f : ℕ) → StringAt m p a e → StringAt m p b f → (a ≡ b) × (e ≡ f)
one_string m p a b e f at other =
    let same : length a ≡ length b = sym at.head ∙ other.head in
    let ends : p + 1 + length a ≡ p + 1 + length b = ap (λ n. p + 1 + n) same in
    (at.octets ∙ ap (slice_range m (p + 1)) ends ∙ sym other.octets, at.after ∙ ends ∙ sym other.after)

no_cut : (m : List ℕ) (p : ℕ) (s : List ℕ) (e : ℕ) (why : ParseError) → StringAt m p s e → StringTooShort m p why → ⊥
no_cut m p s e why at short =
    let h = at.head in let b = at.after in let w = at.whole in let c = short.cut in omega arith

-- at each offset is one string, or one fault is reported
pub string_reading : IsReading StringAt StringTooShort
string_reading = record {
  inside = λ m p s e at. let b = at.after in let w = at.whole in (omega arith, omega arith);
  one_value = one_string;
  not_both = no_cut;
  one_fault = λ m p why other short also. ap refusal (short.told ∙ sym also.told);
}
