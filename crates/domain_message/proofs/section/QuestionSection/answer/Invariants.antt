use Rattle.domain_message.specs.Entries.{QuestionAt}
use Rattle.domain_message.proofs.Sections.{Skipped}
use Rattle.domain_message.proofs.section.QuestionSection.answer.Given as goal

abbrev pub invariant-loop-question : goal.invariant-loop-question
invariant-loop-question l = Skipped QuestionAt l.initial.parser l._question l.parser
