use Rattle.std.proofs.Common.{◌≡◌, arith, ap, length, ◌∙◌}
use Rattle.std.specs.Prelude.{Ok}
use Rattle.domain_message.specs.Entries.{QuestionAt, NoQuestion}
use Rattle.domain_message.specs.ParserFacts.{same_message}
use Rattle.domain_message.proofs.Sections.{skipped_none, skipped_more, misses, begins}
use Rattle.domain_message.proofs.section.QuestionSection.answer.Goals as goal

pub loop-question-init : goal.loop-question-init
loop-question-init c = skipped_none _ _

pub loop-question-preserved : goal.loop-question-preserved
loop-question-preserved c = skipped_more _ _ _ _ _ _ c.loop-question.invariant c.in_default.ensures.ok c.in_default.ensures.moves

pub returns-in-Err-parse-clause-err : goal.returns-in-Err-parse-clause-err
returns-in-Err-parse-clause-err c = misses QuestionAt NoQuestion _ _ _ _ _ _ c.in-Ok.is c.loop-question.invariant c.loop-question-test.true c.in-Err-parse.ensures.err

pub at-requires : goal.at-requires
at-requires c = let same = ap length (same_message _ _ _ c.loop-question.invariant.moves) in omega (arith, c.args.self.header, same)

pub returns-clause-ok : goal.returns-clause-ok
returns-clause-ok c =
    let all : c.in-Ok.count ≡ c.loop-question._question = omega (arith, c.loop-question-test.false, c.loop-question.auto._question-end) in
    begins _ _ _ _ _ _ _ (c.in-Ok.is ∙ ap (λ n. Ok n) all) c.loop-question.invariant c.at.ensures
