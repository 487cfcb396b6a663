-- Service parameters in a message (RFC 9460, 2.2).
use Rattle.std.specs.Prelude.{◌≡◌, ℕ, ◌<◌, ◌≤◌, List, ◌++◌, ◌+◌, length, codes, refl}
use Rattle.std.proofs.Common.{ap, subst, sym, ◌∙◌}
use Rattle.domain_fields.specs.ReadBack.{IsReadBackWhole, left_read_back}
use Rattle.domain_rdata.specs.AnyData.{IsAllThatIsLeft, TooMuchIsLeft}
use Rattle.domain_rdata.specs.UnknownReading.{all_that_is_left}
use Rattle.domain_wire.specs.Refusals.{Refusal, refusal, short_input, form}
use Rattle.domain_wire.specs.Values.{IsReading}
use Rattle.domain_wire.specs.declared.error.ParseError.{ParseError}
use Rattle.domain_svcb.specs.ParamLaws.{params_once, params_or_fault, one_param_fault}
use Rattle.domain_svcb.specs.SvcParams.{params_octets, AreParams, HasParams, NoParams}
use Rattle.domain_svcb.specs.declared.params.SvcParamsError.{SvcParamsError}
use Rattle.domain_svcb.specs.declared.params.SvcParamsError.TheVariants.{Long, ShortInput, KeyOrder}

-- the text that tells an error
abbrev pub params_error_text : SvcParamsError → List ℕ
params_error_text (Long _) = codes "record data too long"
params_error_text ShortInput = codes "short input"
params_error_text KeyOrder = codes "keys of parameters out of order"

-- what a parser reports for it
abbrev pub params_refusal : SvcParamsError → Refusal
params_refusal (Long _) = form (codes "record data too long")
params_refusal ShortInput = short_input
params_refusal KeyOrder = form (codes "keys of parameters out of order")

-- The octets o aren't parameters in at most 65,535 octets, and why.
abbrev pub HasParamsFault : List ℕ → SvcParamsError → Type 0
HasParamsFault o (Long _) = 65535 < length o
HasParamsFault o ShortInput = (length o ≤ 65535) × NoParams o ShortInput
HasParamsFault o KeyOrder = (length o ≤ 65535) × NoParams o KeyOrder

-- The parameters ps are all octets of m from offset p on, and e is their end.
pub record ParamsAt (m : List ℕ) (p : ℕ) (ps : List (ℕ × List ℕ)) (e : ℕ) : Type 0 where
  pub left : IsAllThatIsLeft m p (params_octets ps) e
  pub params : AreParams 0 ps

-- There are no such parameters, and why: too many octets are left, or something is wrong with a parameter.
pub data NoParamsAt (m : List ℕ) (p : ℕ) (why : ParseError) : Type 0 where
  too_much : TooMuchIsLeft m p why → NoParamsAt m p why
  no_params : (o : List ℕ) (e : ℕ) (fault : SvcParamsError) → IsAllThatIsLeft m p o e → NoParams o fault → refusal why ≡ params_refusal fault → NoParamsAt m p why

at_or_none : (m : List ℕ) (p : ℕ) (ps : List (ℕ × List ℕ)) (e : ℕ) (why : ParseError) → ParamsAt m p ps e → NoParamsAt m p why → ⊥
at_or_none m p ps e why at (too_much many) = all_that_is_left.not_both m p (params_octets ps) e why at.left many
at_or_none m p ps e why at (no_params o f fault left wrong told) =
    let same = (all_that_is_left.one_value m p o (params_octets ps) f e left at.left).0 in
    params_or_fault o ps fault same at.params wrong

one_told : (m : List ℕ) (p : ℕ) (why other : ParseError) → NoParamsAt m p why → NoParamsAt m p other → refusal why ≡ refusal other
one_told m p why other (too_much a) (too_much b) = all_that_is_left.one_fault m p why other a b
one_told m p why other (too_much a) (no_params o f fault left wrong told) = absurd (all_that_is_left.not_both m p o f why left a)
one_told m p why other (no_params o f fault left wrong told) (too_much b) = absurd (all_that_is_left.not_both m p o f other left b)
one_told m p why other (no_params o f fault left wrong told) (no_params q g also held bad tells) =
    let same = (all_that_is_left.one_value m p o q f g left held).0 in
    told ∙ (ap params_refusal (one_param_fault q fault also (subst (λ x. NoParams x fault) same wrong) bad) ∙ sym tells)

-- at each offset one list of parameters is read, or one error is returned
pub params_reading : IsReading ParamsAt NoParamsAt
params_reading = record {
  inside = λ m p ps e at. all_that_is_left.inside m p (params_octets ps) e at.left;
  one_value = λ m p a b e f at other.
      let same = all_that_is_left.one_value m p (params_octets a) (params_octets b) e f at.left other.left in
      (params_once a b same.0 at.params other.params, same.1);
  not_both = at_or_none;
  one_fault = one_told;
}

-- parameters that were composed are read back
pub params_read_back : (octets : List ℕ) (has : HasParams 0 octets) → length octets ≤ 65535 → IsReadBackWhole (λ _ _ s. s ≡ octets) ParamsAt (λ seen. seen ≡ has.0)
params_read_back octets has few compresses t s same =
    let seen = left_read_back octets few compresses t s same in (
      has.0,
      record {
        left = subst (λ o. IsAllThatIsLeft (t ++ s) (length t) o (length t + length s)) (seen.2 ∙ has.1) seen.1;
        params = has.2;
      },
      refl,
    )
