use Rattle.std.proofs.Common.{length}
use Rattle.std.specs.Fmt.{IsPlainFormatter}
use Rattle.std.specs.List.{flat_map}
use Rattle.domain_list.specs.Moving.{HasMoved}
use Rattle.domain_svcb.specs.ParamText.{spaced_param, params_text}
use Rattle.domain_svcb.specs.ParamViews.{params_left}
use Rattle.domain_svcb.specs.ParamsViews.{params_of}
use Rattle.domain_svcb.proofs.params.SvcParamsDisplay.fmt.Given as goal

abbrev pub invariant-loop-param : goal.invariant-loop-param
invariant-loop-param g l =
    IsPlainFormatter l.fn.f → HasMoved g.W.Write.write_str_gives l.fn.f (params_text (params_of l.fn.self)) (flat_map spaced_param (params_left l.params)) l.f

abbrev pub decreases-loop-param : goal.decreases-loop-param
decreases-loop-param g l = length (params_left l.params)
