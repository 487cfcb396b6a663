use Rattle.std.proofs.Common.{refl}
use Rattle.domain_zone_response.proofs.Growing.{gains_both, sets_stop}
use Rattle.domain_zone_response.proofs.sets.push_all.Goals as goal
use Rattle.domain_zone_signed.specs.SignedViews.{response_view}

pub returns-then-not-pushed-clause-some : goal.returns-then-not-pushed-clause-some
returns-then-not-pushed-clause-some g c =
    let some = c.if-not-pushed.ensures.some in
    (_, gains_both _ _ _ some.0 _ _ _ c.loop-index.invariant.gains some.1)

pub returns-then-not-pushed-clause-stops : goal.returns-then-not-pushed-clause-stops
returns-then-not-pushed-clause-stops g c within =
    sets_stop _ _ _ response_view c.args.sets.now c.loop-index.index c.index-sets-index.result _ _ _ _
    c.loop-index-test.true c.index-sets-index.is c.loop-index.invariant.room c.loop-index.invariant.gains (c.if-not-pushed.ensures.why refl)
