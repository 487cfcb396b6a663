use Rattle.domain_make.proofs.Entering.{question_refused, question_stopped}
use Rattle.domain_make.proofs.Telling.{passed_on}
use Rattle.domain_make.proofs.entry.push_question.Goals as goal

pub returns-in_err-question-clause-err : goal.returns-in_err-question-clause-err
returns-in_err-question-clause-err g c = passed_on _ _ _ c.from_residual.ensures.1 (question_refused _ _ _ _ c.in_err-question.ensures.err)

pub returns-clause-err : goal.returns-clause-err
returns-clause-err g c = question_stopped _ _ _ _ _ _ c.in-Err.e _ c.in_ok-question.ensures.ok c.in-Err.ensures.why c.first_column.ensures c.refused.ensures
