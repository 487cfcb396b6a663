use Rattle.std.proofs.Common.{sym, ◌∙◌}
use Rattle.domain_message.proofs.Comparing.{ours_missing, theirs_missing, not_same}
use Rattle.domain_message.proofs.answering.next_is_same.Goals as goal

pub returns-in-Err-clause-other : goal.returns-in-Err-clause-other
returns-in-Err-clause-other c = λ no e f next. ours_missing next c.in-Err.ensures.err

pub returns-in-Err-parse-clause-other : goal.returns-in-Err-parse-clause-other
returns-in-Err-parse-clause-other c = λ no e f next. theirs_missing next c.in-Err-parse.ensures.err

pub returns-clause-other : goal.returns-clause-other
returns-clause-other c = λ no e f next. not_same next c.in-Ok.ensures.ok c.in-Ok-parse.ensures.ok (sym c.are_alike.ensures ∙ no)
