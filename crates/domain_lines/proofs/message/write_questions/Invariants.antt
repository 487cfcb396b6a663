use Rattle.domain_message.specs.Entries.{QuestionAt}
use Rattle.domain_lines.specs.Messages.{IsQuestionText}
use Rattle.domain_lines.proofs.Showing.{Written}
use Rattle.domain_lines.proofs.message.write_questions.Given as goal

abbrev pub invariant-loop-question : goal.invariant-loop-question
invariant-loop-question g l = Written QuestionAt IsQuestionText l.initial.parser l._question l.parser (g.W.Sink.takes l.initial.output l.output)
