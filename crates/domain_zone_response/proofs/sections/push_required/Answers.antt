use Rattle.std.proofs.Common.{arith}
use Rattle.std.proofs.lemmas.List.{length-map}
use Rattle.domain_zone_response.proofs.Growing.{fills_whole, stops_part}
use Rattle.domain_zone_response.proofs.sections.push_required.Goals as goal
use Rattle.domain_zone_signed.specs.SignedViews.{response_view, response_views}

pub returns-then-count-all-clause-stops : goal.returns-then-count-all-clause-stops
returns-then-count-all-clause-stops g c part =
    stops_part _ _ _ (response_views c.args.sets.now) _ _ _ _ (c.push_most-count.ensures.stops c.if-count-all.true) c.push_most-count.ensures.fills

pub returns-clause-pushed : goal.returns-clause-pushed
returns-clause-pushed g c whole =
    fills_whole _ _ _ (response_views c.args.sets.now) _ _ _ (omega (arith, c.if-count-all.false, length-map c.args.sets.now response_view)) c.push_most-count.ensures.fills
