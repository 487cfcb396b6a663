use Rattle.domain_make.proofs.Drafting.{on_ok, takes_question}
use Rattle.domain_make.proofs.Entering.{some_words}
use Rattle.domain_make.proofs.Refusing.{refuses_question}
use Rattle.domain_make.proofs.Telling.{if_err}
use Rattle.domain_make.proofs.line.take_question.Goals as goal

pub returns-clause-ok : goal.returns-clause-ok
returns-clause-ok g c = on_ok _ _ _ (λ h. takes_question _ _ _ _ _ _ c.requires.begins c.requires.words h.1 h.2) c.push_question.ensures.ok

pub returns-clause-err : goal.returns-clause-err
returns-clause-err g c = if_err _ _ _ (λ f k lack. refuses_question _ _ _ _ f k c.requires.begins c.requires.words (some_words _ c.requires.some) lack) c.push_question.ensures.err
