use Rattle.std.proofs.Common.{refl}
use Rattle.domain_svcb.specs.ParamText.{spaced_param}
use Rattle.domain_svcb.specs.ParamViews.{param_of}
use Rattle.domain_svcb.proofs.Showing.{shown_item}
use Rattle.domain_svcb.proofs.params.SvcParamsDisplay.fmt.Goals as goal

pub loop-param-preserved : goal.loop-param-preserved
loop-param-preserved g c plain =
    let m = c.loop-param.invariant plain in
    shown_item g.W.Write.write_str_gives spaced_param _ _ _ _ _ _ (param_of c.in-Some-next.param) m c.in-Some-next.ensures.steps (c.in_ok-write-2.ensures.writes m.wrote.plain refl)
