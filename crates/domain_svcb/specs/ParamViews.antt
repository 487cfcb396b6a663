-- What contracts see of single parameters.
use denote.Ref.{Bor}
use Rattle.std.specs.Prelude.{ℕ, List}
use Rattle.domain_svcb.specs.declared.param.SvcParam.{SvcParam}
use Rattle.domain_svcb.specs.declared.param.SvcParamsIter.{SvcParamsIter}

-- the key of a parameter and the octets of its value
abbrev pub param_of : SvcParam → ℕ × List ℕ
param_of it = (it.key, it.value.now)

-- the parameters that an iterator has left
abbrev pub params_left : SvcParamsIter → List (ℕ × List ℕ)
params_left it = it.params.0
