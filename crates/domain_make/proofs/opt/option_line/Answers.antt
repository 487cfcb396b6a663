use Rattle.domain_make.proofs.Opting.{lines_of}
use Rattle.domain_make.proofs.opt.option_line.Goals as goal

pub returns-clause-ok : goal.returns-clause-ok
returns-clause-ok c = lines_of _ _ _ _ c.push_line.ensures.ok
