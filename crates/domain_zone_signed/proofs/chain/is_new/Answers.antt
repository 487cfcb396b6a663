use Rattle.domain_zone_signed.specs.ChainViews.{answer_view}
use Rattle.domain_zone_signed.proofs.Repeating.{repeats_here, repeats_on, repeats_none}
use Rattle.domain_zone_signed.proofs.chain.is_new.Goals as goal

pub returns-then-is_same : goal.returns-then-is_same
returns-then-is_same c =
    repeats_here c.args.answers.now c.loop-answer.answer-index c.answer-item.result (answer_view c.args.set.now) c.is_same.result c.loop-answer-test.true c.answer-item.is c.is_same.ensures c.if-is_same.true c.loop-answer.invariant

pub loop-answer-preserved : goal.loop-answer-preserved
loop-answer-preserved c =
    repeats_on c.args.answers.now c.loop-answer.answer-index c.answer-item.result (answer_view c.args.set.now) c.is_same.result c.loop-answer-test.true c.answer-item.is c.is_same.ensures c.if-is_same.false c.loop-answer.invariant

pub returns : goal.returns
returns c = repeats_none c.args.answers.now c.loop-answer.answer-index (answer_view c.args.set.now) c.loop-answer-test.false c.loop-answer.invariant
