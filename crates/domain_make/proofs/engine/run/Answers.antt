use Rattle.domain_make.proofs.Drafting.{line_told, line_never}
use Rattle.domain_make.proofs.engine.run.Goals as goal

pub returns-in-Line-clause-line : goal.returns-in-Line-clause-line
returns-in-Line-clause-line g c = λ _. line_told _ _ _ c.in-Line.is c.in-Err.ensures.refused

pub returns-in-Line-clause-accepted : goal.returns-in-Line-clause-accepted
returns-in-Line-clause-accepted g c = λ _. line_never _ _ _ c.in-Line.is c.in-Err.ensures.accepted
