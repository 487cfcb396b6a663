use Rattle.std.proofs.Common.{sym, ◌∙◌, arith}
use Rattle.std.proofs.lemmas.List.{length-take-le}
use Rattle.domain_zone_response.proofs.Growing.{fills_first, fills_after, fills_none, stops_list}
use Rattle.domain_zone_response.proofs.sets.push_most.Goals as goal
use Rattle.domain_zone_signed.specs.SignedViews.{response_view}

pub returns-then-whole-count-clause-fills : goal.returns-then-whole-count-clause-fills
returns-then-whole-count-clause-fills g c =
    fills_first _ _ _ response_view c.args.sets.now c.fewer.count _ _ _ c.fewer.invariant.none
    (c.push_all-whole.ensures.whole (c.if-whole-count.true ∙ sym (length-take-le c.fewer.count c.args.sets.now c.fewer.invariant.few)))

pub fewer-preserved : goal.fewer-preserved
fewer-preserved g c =
    let some = c.push_all-whole.ensures.some in
    let len = length-take-le c.fewer.count c.args.sets.now c.fewer.invariant.few in
    record {
      few = omega (arith, c.push_all-whole.ensures.few, len, c.fewer.invariant.few);
      none = fills_after _ _ _ _ _ _ c.fewer.invariant.none (fills_none _ _ some.0 _ _ _ some.1 c.rewind.ensures.rewinds);
      stops = λ lt. stops_list _ _ _ response_view c.args.sets.now c.fewer.count c.push_all-whole.result _ _ _ _ c.fewer.invariant.room c.fewer.invariant.none
          (c.push_all-whole.ensures.stops (omega (arith, c.push_all-whole.ensures.few, len, c.if-whole-count.false)));
      room = omega (arith, c.fewer.invariant.room, c.push_all-whole.ensures.capacity, c.rewind.ensures.capacity);
    }
