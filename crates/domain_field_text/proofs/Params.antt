-- The service parameters that octets are, as a function of the octets.
use Rattle.std.proofs.Common.{◌≡◌, ℕ, zero, suc, ◌+◌, ◌*◌, ◌/◌, ◌%◌, ◌<◌, ◌≤◌, List, [], ◌∷◌, ◌++◌, length, take, drop, refl, arith, rules, ap, sym, ◌∙◌, append_assoc, length-append, Option, None, Some, if◌then◌else◌}
use Rattle.std.specs.Prelude.{nat_le, slice_index}
use Rattle.std.proofs.Math.Seq.{take-append_seam, drop-append_seam}
use Rattle.std.proofs.lemmas.Bool.{le-leb, lt-leb}
use Rattle.domain_svcb.specs.ParamLaws.{of_octets, no_fault}
use Rattle.domain_svcb.specs.ParamsReading.{HasParamsFault}
use Rattle.domain_svcb.specs.SvcParams.{params_octets, AreParams, EncodesParams, NoParams, param_fault, next_key}
use Rattle.domain_svcb.specs.declared.params.SvcParamsError.{SvcParamsError}
use Rattle.domain_svcb.specs.declared.params.SvcParamsError.TheVariants.{Long, ShortInput, KeyOrder}
use Rattle.domain_field_text.specs.FieldTexts.{with_param, number_at, next_param, params_from, params_in}

-- a parameter, and octets after it
abbrev before : ℕ × List ℕ → List ℕ → List ℕ
before p r = p.0 / 256 ∷ p.0 % 256 ∷ length p.1 / 256 ∷ length p.1 % 256 ∷ (p.1 ++ r)

one_param : (n least : ℕ) (p : ℕ × List ℕ) (r : List ℕ) → least ≤ p.0 → params_from (suc n) least (before p r) ≡ with_param p (params_from n (p.0 + 1) r)
one_param n least p r order =
    ap (next_param (params_from n) (before p r)) (no_fault least p.0 p.1 r order)
    ∙ (ap (λ k. with_param (k, take (number_at (before p r) 2) (p.1 ++ r)) (params_from n (k + 1) (drop (number_at (before p r) 2) (p.1 ++ r)))) (of_octets p.0)
    ∙ (ap (λ len. with_param (p.0, take len (p.1 ++ r)) (params_from n (p.0 + 1) (drop len (p.1 ++ r)))) (of_octets (length p.1))
    ∙ (ap (λ x. with_param (p.0, x) (params_from n (p.0 + 1) (drop (length p.1) (p.1 ++ r)))) (take-append_seam p.1 r)
    ∙ ap (λ x. with_param p (params_from n (p.0 + 1) x)) (drop-append_seam p.1 r))))

-- parameters are found
params_found : (n least : ℕ) (ps : List (ℕ × List ℕ)) → AreParams least ps → length ps < n → params_from n least (params_octets ps) ≡ Some ps
params_found zero least ps are many = absurd (omega (arith, many))
params_found (suc n) least [] are many = refl
params_found (suc n) least (p ∷ ps) are many =
    one_param n least p (params_octets ps) are.0.0 ∙ ap (with_param p) (params_found n (p.0 + 1) ps are.1 (omega (arith, many)))

none_some : {A : Type 0} {x : A} → None ≡ Some x → ⊥
none_some e = search rules

-- and none are where something is wrong after some
params_stop : (n least : ℕ) (ps : List (ℕ × List ℕ)) (rest : List ℕ) (why : SvcParamsError) → AreParams least ps → param_fault (next_key least ps) rest ≡ Some why
    → params_from n least (params_octets ps ++ rest) ≡ None
params_stop zero least ps rest why are wrong = refl
params_stop (suc n) least [] [] why are wrong = absurd (none_some wrong)
params_stop (suc n) least [] (c ∷ rest) why are wrong = ap (next_param (params_from n) (c ∷ rest)) wrong
params_stop (suc n) least (p ∷ ps) rest why are wrong =
    ap (λ x. params_from (suc n) least (p.0 / 256 ∷ p.0 % 256 ∷ length p.1 / 256 ∷ length p.1 % 256 ∷ x)) (append_assoc p.1 (params_octets ps) rest)
    ∙ (one_param n least p (params_octets ps ++ rest) are.0.0 ∙ ap (with_param p) (params_stop n (p.0 + 1) ps rest why are.1 wrong))

params_fewer : (ps : List (ℕ × List ℕ)) → length ps ≤ length (params_octets ps)
params_fewer [] = omega arith
params_fewer (p ∷ ps) = omega (arith, params_fewer ps, length-append p.1 (params_octets ps))

-- octets that are parameters
pub params_are : (o : List ℕ) (ps : List (ℕ × List ℕ)) → EncodesParams o ps → length o ≤ 65535 → params_in o ≡ Some ps
params_are o ps encodes few =
    ap (λ b. if b then params_from (suc (length o)) 0 o else None) (le-leb (length o) 65535 few)
    ∙ (ap (params_from (suc (length o)) 0) encodes.0 ∙ params_found (suc (length o)) 0 ps encodes.1 (omega (arith, ap length encodes.0, params_fewer ps)))

-- octets that aren't
not_params : (o : List ℕ) (why : SvcParamsError) → length o ≤ 65535 → NoParams o why → params_in o ≡ None
not_params o why few bad =
    ap (λ b. if b then params_from (suc (length o)) 0 o else None) (le-leb (length o) 65535 few)
    ∙ (ap (params_from (suc (length o)) 0) bad.parts ∙ params_stop (suc (length o)) 0 bad.before bad.rest why bad.are bad.none)

pub params_none : (o : List ℕ) (why : SvcParamsError) → HasParamsFault o why → params_in o ≡ None
params_none o (Long _) many = ap (λ b. if b then params_from (suc (length o)) 0 o else None) (lt-leb (length o) 65535 many)
params_none o ShortInput bad = not_params o ShortInput bad.0 bad.1
params_none o KeyOrder bad = not_params o KeyOrder bad.0 bad.1
