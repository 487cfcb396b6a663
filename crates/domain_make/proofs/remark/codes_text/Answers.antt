use Rattle.domain_make.proofs.Texts.{either_beginning}
use Rattle.domain_make.proofs.remark.codes_text.Goals as goal

pub returns-in-None : goal.returns-in-None
returns-in-None c = either_beginning c.args.line.now _ c.in-None.ensures c.after-in-None.ensures
