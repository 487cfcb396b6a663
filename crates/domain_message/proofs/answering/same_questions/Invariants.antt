use Rattle.domain_message.specs.Answering.{alike}
use Rattle.domain_message.proofs.Comparing.{SameSoFar}
use Rattle.domain_message.proofs.answering.same_questions.Given as goal

abbrev pub invariant-loop-question : goal.invariant-loop-question
invariant-loop-question l = SameSoFar (alike l.spelled) l.fn.ours l.fn.theirs l.count l._question l.our l.their
