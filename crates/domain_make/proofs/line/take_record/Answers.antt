use Rattle.domain_make.proofs.Drafting.{record_ok}
use Rattle.domain_make.proofs.Entering.{some_words}
use Rattle.domain_make.proofs.Refusing.{record_err}
use Rattle.domain_make.proofs.line.take_record.Goals as goal

pub returns-clause-ok : goal.returns-clause-ok
returns-clause-ok g c = record_ok _ _ _ _ _ _ _ c.requires.begins c.requires.words c.push_record.ensures.ok

pub returns-clause-err : goal.returns-clause-err
returns-clause-err g c = record_err _ _ _ _ _ _ c.requires.begins c.requires.words (some_words _ c.requires.some) c.push_record.ensures.err
