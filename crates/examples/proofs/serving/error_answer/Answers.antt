use Rattle.examples.proofs.Replies.{is_error_answer}
use Rattle.examples.proofs.serving.error_answer.Goals as goal

pub returns-clause-ok : goal.returns-clause-ok
returns-clause-ok g c = is_error_answer _ _ _ _ _ _ _ _ _ c.in-Ok.ensures.capacity c.in-Ok.ensures.ok c.start_error.ensures.starts c.finish.ensures.message
