use Rattle.std.proofs.Common.{◌≡◌, ◌+◌, ◌-◌, arith, rules}
use Rattle.domain_message.specs.ParserFacts.{same_message}
use Rattle.domain_message.proofs.Skipping.{passed_more}
use Rattle.domain_message.proofs.kept.next_kept.Goals as goal

pub loop-left-preserved : goal.loop-left-preserved
loop-left-preserved g c =
    let one : c.loop-left.left ≡ c.loop-left.left - 1 + 1 = omega (arith, c.loop-left-test.true) in
    passed_more _ _ _ _ _ _ _ _ c.loop-left.invariant one (c.in-Ok-None.ensures.none (search rules)) c.in-Ok.ensures.ok (same_message _ _ _ c.in-Ok.ensures.moves)
