-- Text in a message is a reading.
use Rattle.std.specs.Prelude.{◌≡◌, ℕ, ◌<◌, ◌≤◌, List, ◌++◌, length, drop, refl}
use Rattle.std.proofs.Common.{arith, ap, sym, ◌∙◌, length-append, length-drop}
use Rattle.std.proofs.Math.Seq.{drop-append_seam}
use Rattle.domain_wire.specs.declared.error.ParseError.{ParseError}
use Rattle.domain_wire.specs.Refusals.{refusal}
use Rattle.domain_wire.specs.Values.{IsReading}
use Rattle.domain_fields.specs.ReadBack.{IsReadBackWhole}
use Rattle.domain_txt.specs.Cutting.{strings_once, whole_or_cut}
use Rattle.domain_txt.specs.Strings.{strings_in, HasStrings}
use Rattle.domain_txt.specs.TxtReading.{TextAt, NoText}
use Rattle.domain_txt.specs.TxtReading.NoText.{none, cut, long}

text_or_fault : (m : List ℕ) (p : ℕ) (ss : List (List ℕ)) (e : ℕ) (why : ParseError) → TextAt m p ss e → NoText m p why → ⊥
text_or_fault m p ss e why at (none empty told) = let some = at.some in omega (arith, ap length empty)
text_or_fault m p ss e why at (cut few inside told) = whole_or_cut (drop p m) ss at.octets inside
text_or_fault m p ss e why at (long many told) = let few = at.few in omega arith

one_told : (m : List ℕ) (p : ℕ) (why other : ParseError) → NoText m p why → NoText m p other → refusal why ≡ refusal other
one_told m p why other (none e told) (none f tells) = told ∙ sym tells
one_told m p why other (none e told) (cut few inside tells) = told ∙ sym tells
one_told m p why other (none e told) (long many tells) = absurd (omega (arith, ap length e))
one_told m p why other (cut few inside told) (none f tells) = told ∙ sym tells
one_told m p why other (cut few inside told) (cut also within tells) = told ∙ sym tells
one_told m p why other (cut few inside told) (long many tells) = absurd (omega arith)
one_told m p why other (long many told) (none f tells) = absurd (omega (arith, ap length f))
one_told m p why other (long many told) (cut few inside tells) = absurd (omega arith)
one_told m p why other (long many told) (long more tells) = told ∙ sym tells

-- at each offset one text is read, or one error is reported
pub text_reading : IsReading TextAt NoText
text_reading = record {
  inside = λ m p ss e at. let some = at.some in let end = at.end in let size = length-drop p m in (omega arith, omega arith);
  one_value = λ m p a b e f at other. (strings_once a b (sym at.octets ∙ other.octets), at.end ∙ sym other.end);
  not_both = text_or_fault;
  one_fault = one_told;
}

-- text that was composed is read back as its strings
pub text_read_back : (octets : List ℕ) → HasStrings octets → 0 < length octets → length octets ≤ 65535 → IsReadBackWhole (λ _ _ s. s ≡ octets) TextAt (λ it. it ≡ strings_in octets)
text_read_back octets has some few compresses t s same =
    let here : drop (length t) (t ++ s) ≡ octets = drop-append_seam t s ∙ same in (
      strings_in octets,
      record {
        octets = here ∙ sym has.0;
        strings = has.1;
        some = omega (arith, some, ap length here);
        few = omega (arith, few, ap length here);
        end = sym (length-append t s);
      },
      refl,
    )
