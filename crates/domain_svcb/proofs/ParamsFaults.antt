-- Why no parameters are in a message.
use Rattle.std.proofs.Common.{◌≡◌, ℕ, ◌≤◌, List, length, drop, refl, ap, arith}
use Rattle.domain_wire.specs.Refusals.{refusal}
use Rattle.domain_wire.specs.declared.error.ParseError.{ParseError}
use Rattle.domain_svcb.specs.ParamsReading.{HasParamsFault, NoParamsAt, params_refusal}
use Rattle.domain_svcb.specs.ParamsReading.NoParamsAt.{too_much, no_params}
use Rattle.domain_svcb.specs.SvcParams.{NoParams}
use Rattle.domain_svcb.specs.declared.params.SvcParamsError.{SvcParamsError}
use Rattle.domain_svcb.specs.declared.params.SvcParamsError.TheVariants.{Long, ShortInput, KeyOrder}

few_wrong : (m o : List ℕ) (p : ℕ) (fault : SvcParamsError) (why : ParseError) → o ≡ drop p m → p ≤ length m → (length o ≤ 65535) × NoParams o fault → refusal why ≡ params_refusal fault → NoParamsAt m p why
few_wrong m o p fault why is inside wrong told =
    no_params o (length m) fault (record { inside = inside; all = is; few = wrong.0; after = refl }) wrong.1 told

pub params_missing : (m o : List ℕ) (p : ℕ) (fault : SvcParamsError) (why : ParseError) → o ≡ drop p m → p ≤ length m → HasParamsFault o fault → refusal why ≡ params_refusal fault → NoParamsAt m p why
params_missing m o p (Long long) why is inside many told = too_much (record { many = omega (arith, many, ap length is); told = told })
params_missing m o p ShortInput why is inside wrong told = few_wrong m o p ShortInput why is inside wrong told
params_missing m o p KeyOrder why is inside wrong told = few_wrong m o p KeyOrder why is inside wrong told
