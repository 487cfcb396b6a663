use Rattle.domain_make.proofs.Drafting.{made, refused, taken}
use Rattle.domain_make.proofs.engine.make_message.Goals as goal

pub returns-in-Ok-take_lines-clause-message : goal.returns-in-Ok-take_lines-clause-message
returns-in-Ok-take_lines-clause-message g c = made _ _ _ _ _ c.in-Ok.ensures.ok c.in-Ok-take_lines.ensures.all c.finish.ensures.message

pub returns-in-Err-take_lines-clause-refused : goal.returns-in-Err-take_lines-clause-refused
returns-in-Err-take_lines-clause-refused g c = refused _ _ _ _ c.in-Ok.ensures.ok c.in-Err-take_lines.ensures.refused

pub returns-in-Err-take_lines-clause-accepted : goal.returns-in-Err-take_lines-clause-accepted
returns-in-Err-take_lines-clause-accepted g c = taken _ _ _ (refused _ _ _ _ c.in-Ok.ensures.ok c.in-Err-take_lines.ensures.refused)
