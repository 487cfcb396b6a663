use Rattle.std.proofs.Common.{◌≡◌, refl, sym, arith, true≢false}
use Rattle.domain_message.proofs.Comparing.{so_far_more, so_far_other, so_far_all}
use Rattle.domain_message.proofs.answering.same_questions.Goals as goal

pub returns-then-not-next_is_same : goal.returns-then-not-next_is_same
returns-then-not-next_is_same c = (λ so. absurd (true≢false (sym so)), λ all. absurd (so_far_other _ _ _ _ _ _ _ c.loop-question.invariant c.loop-question-test.true (c.if-not-next_is_same.ensures.other refl) all))

pub loop-question-preserved : goal.loop-question-preserved
loop-question-preserved c =
    let next = c.if-not-next_is_same.ensures in
    so_far_more _ _ _ _ _ _ _ _ _ c.loop-question.invariant c.loop-question-test.true (next.same refl) (next.ours refl) (next.theirs refl)

pub returns : goal.returns
returns c =
    let all : c.loop-question._question ≡ c.args.count = omega (arith, c.loop-question-test.false, c.loop-question.auto._question-end) in
    (λ so. so_far_all _ _ _ _ _ _ _ c.loop-question.invariant all, λ same. refl)
