-- Character strings in a message are a reading, and are read back.
use Rattle.std.specs.Prelude.{◌≡◌, ℕ, ◌+◌, ◌≤◌, List, ◌++◌, length, take, drop, get_or, refl}
use Rattle.std.proofs.Common.{arith, ap, sym, ◌∙◌, append_assoc, length-append, length-drop}
use Rattle.std.proofs.Math.Seq.{take-append_seam, drop-append_seam}
use Rattle.domain_wire.specs.Refusals.{refusal}
use Rattle.domain_wire.specs.Values.{IsReading}
use Rattle.domain_wire.specs.declared.error.ParseError.{ParseError}
use Rattle.domain_fields.specs.ReadBack.{IsReadBack}
use Rattle.domain_strings.specs.CharStrings.{counted, CharStringAt, NoCharString}

-- octets that begin with a string begin with one only
pub counted_once : (a b r s : List ℕ) → counted a ++ r ≡ counted b ++ s → a ≡ b
counted_once a b r s e =
    let size : length a ≡ length b = cc in
    let after : a ++ r ≡ b ++ s = cc in
    sym (take-append_seam a r) ∙ (ap (take (length a)) after ∙ (ap (λ n. take n (b ++ s)) size ∙ take-append_seam b s))

string_once : (m : List ℕ) (p : ℕ) (a b : List ℕ) (e f : ℕ) → CharStringAt m p a e → CharStringAt m p b f → (a ≡ b) × (e ≡ f)
string_once m p a b e f x y =
    let same = counted_once a b x.rest y.rest (sym x.parts ∙ y.parts) in
    (same, x.end ∙ (ap (λ s. p + length (counted s)) same ∙ sym y.end))

string_inside : (m : List ℕ) (p : ℕ) (s : List ℕ) (e : ℕ) → CharStringAt m p s e → (p ≤ e) × (e ≤ length m)
string_inside m p s e at =
    let end = at.end in
    (omega arith, omega (arith, ap length at.parts, length-drop p m, length-append s at.rest))

string_or_cut : (m : List ℕ) (p : ℕ) (s : List ℕ) (e : ℕ) (why : ParseError) → CharStringAt m p s e → NoCharString m p why → ⊥
string_or_cut m p s e why at none =
    let tells : get_or (drop p m) 0 0 ≡ length s = ap (λ o. get_or o 0 0) at.parts in
    omega (arith, tells, none.cut, ap length at.parts, length-append s at.rest)

-- at each offset one string is read, or there is none
pub char_string_reading : IsReading CharStringAt NoCharString
char_string_reading = record {
  inside = string_inside;
  one_value = string_once;
  not_both = string_or_cut;
  one_fault = λ m p why other a b. ap refusal (a.told ∙ sym b.told);
}

-- a string that was composed is read back
pub char_string_read_back : (it : List ℕ) → length it ≤ 255 → IsReadBack (λ _ _ s. s ≡ counted it) CharStringAt (λ seen. seen ≡ it)
char_string_read_back it short compresses t s u same =
    let here : drop (length t) (t ++ s ++ u) ≡ counted it ++ u = ap (drop (length t)) (append_assoc t s u) ∙ (drop-append_seam t (s ++ u) ∙ ap (λ o. o ++ u) same) in
    (it, record { short = short; rest = u; parts = here; end = ap (λ o. length t + length o) same }, refl)
