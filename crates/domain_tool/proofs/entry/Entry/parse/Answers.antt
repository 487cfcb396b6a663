use Rattle.domain_tool.proofs.Entries.{line_of_question}
use Rattle.domain_tool.proofs.entry.Entry.parse.Goals as goal

pub returns-in-Ok-clause-ok : goal.returns-in-Ok-clause-ok
returns-in-Ok-clause-ok c = line_of_question _ _ _ _ _ c.in-Question.is c.in-Ok.ensures.ok
