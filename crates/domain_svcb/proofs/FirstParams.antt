-- The first of parameters, and those after it.
use Rattle.std.proofs.Common.{◌≡◌, ℕ, ◌+◌, ◌<◌, ◌≤◌, List, [], ◌∷◌, length, Some, refl, arith, ap, sym, ◌∙◌, append-nil}
use Rattle.domain_svcb.specs.ParamLaws.{no_param, params_once, same_first}
use Rattle.domain_svcb.specs.SvcParams.{params_octets, AreParams, HasParams, FirstParam, param_fault}
use Rattle.domain_svcb.specs.declared.params.SvcParamsError.{SvcParamsError}

-- nothing is wrong with the first of parameters
wrong_of : (o : List ℕ) (ps : List (ℕ × List ℕ)) (why : SvcParamsError) → o ≡ params_octets ps → AreParams 0 ps → 0 < length o → param_fault 0 o ≡ Some why → ⊥
wrong_of o [] why is are some wrong = omega (arith, some, ap length is)
wrong_of o (p ∷ ps) why is are some wrong = no_param 0 p ps o [] why are (is ∙ sym (append-nil (params_octets (p ∷ ps)))) wrong

pub never_wrong : (o : List ℕ) (why : SvcParamsError) → HasParams 0 o → 0 < length o → param_fault 0 o ≡ Some why → ⊥
never_wrong o why has some wrong = wrong_of o has.0 why has.1 has.2 some wrong

-- the parameters after the first
record After (key : ℕ) (value rest : List ℕ) (ps : List (ℕ × List ℕ)) : Type 0 where
  left : List (ℕ × List ℕ)
  is : ps ≡ (key, value) ∷ left
  octets : rest ≡ params_octets left
  are : AreParams 0 left

lower : (least low : ℕ) (ps : List (ℕ × List ℕ)) → low ≤ least → AreParams least ps → AreParams low ps
lower least low [] le are = tt
lower least low (p ∷ ps) le are = ((omega (arith, le, are.0.0), are.0.1), are.1)

after : (o value rest : List ℕ) (key : ℕ) (ps : List (ℕ × List ℕ)) → o ≡ params_octets ps → AreParams 0 ps → FirstParam 0 o key value rest → After key value rest ps
after o value rest key [] is are first = absurd (omega (arith, ap length (sym is ∙ first.parts)))
after o value rest key (p ∷ ps) is are first =
    let same = same_first p.0 key p.1 value (params_octets ps) rest (sym is ∙ first.parts) in
    record {
      left = ps;
      is = λ i. (same.0 i, same.1.0 i) ∷ ps;
      octets = sym same.1.1;
      are = lower (p.0 + 1) 0 ps (omega arith) are.1;
    }

pub params_after : (o value rest : List ℕ) (key : ℕ) → HasParams 0 o → FirstParam 0 o key value rest → HasParams 0 rest
params_after o value rest key h first =
    let a = after o value rest key h.0 h.1 h.2 first in
    (a.left, a.octets, a.are)

-- one parameter, and those after it
pub next_param : (o value rest : List ℕ) (key : ℕ) (h : HasParams 0 o) (k : HasParams 0 rest) → FirstParam 0 o key value rest → h.0 ≡ (key, value) ∷ k.0
next_param o value rest key h k first =
    let a = after o value rest key h.0 h.1 h.2 first in
    a.is ∙ ap (λ ps. (key, value) ∷ ps) (params_once a.left k.0 (sym a.octets ∙ k.1) a.are k.2)

-- no octet is no parameter
none_of : (o : List ℕ) (ps : List (ℕ × List ℕ)) → o ≡ params_octets ps → length o ≡ 0 → ps ≡ []
none_of o [] is none = refl
none_of o (p ∷ ps) is none = absurd (omega (arith, none, ap length is))

pub no_params_left : (o : List ℕ) (h : HasParams 0 o) → length o ≡ 0 → h.0 ≡ []
no_params_left o h none = none_of o h.0 h.1 none

pub same_params : (o : List ℕ) (h k : HasParams 0 o) → h.0 ≡ k.0
same_params o h k = params_once h.0 k.0 (sym h.1 ∙ k.1) h.2 k.2
