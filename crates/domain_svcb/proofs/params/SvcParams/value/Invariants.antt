use Rattle.std.proofs.Common.{◌≡◌, length}
use Rattle.domain_svcb.specs.ParamViews.{params_left}
use Rattle.domain_svcb.specs.ParamsViews.{params_of}
use Rattle.domain_svcb.specs.SvcParams.{value_with}
use Rattle.domain_svcb.proofs.params.SvcParams.value.Given as goal

abbrev pub invariant-loop-param : goal.invariant-loop-param
invariant-loop-param g l = value_with l.key (params_left l.params) ≡ value_with l.key (params_of l.self)

abbrev pub decreases-loop-param : goal.decreases-loop-param
decreases-loop-param g l = length (params_left l.params)
