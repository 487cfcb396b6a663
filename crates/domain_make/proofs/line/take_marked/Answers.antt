use Rattle.std.proofs.Common.{refl}
use Rattle.domain_make.proofs.Drafting.{there_at, there_ok}
use Rattle.domain_make.proofs.Refusing.{refused_at, there_err}
use Rattle.domain_make.proofs.line.take_marked.Goals as goal

pub returns-in-Ok-clause-ok : goal.returns-in-Ok-clause-ok
returns-in-Ok-clause-ok g c = there_at _ _ _ _ _ _ _ _ _ c.in-Questions.is refl c.in-Ok.ensures.ok

pub returns-in-Err-clause-err : goal.returns-in-Err-clause-err
returns-in-Err-clause-err g c = refused_at _ _ _ _ _ _ _ c.in-Questions.is c.in-Err.ensures.err

pub returns-then-is_asked : goal.returns-then-is_asked
returns-then-is_asked g c = record { ok = there_ok _ _ _ _ _ _ _ _ refl c.take_remark.ensures.ok; err = there_err _ _ _ _ _ _ _ refl c.take_remark.ensures.err }

pub returns-clause-ok : goal.returns-clause-ok
returns-clause-ok g c = there_ok _ _ _ _ _ _ _ _ refl c.take_remark-2.ensures.ok

pub returns-clause-err : goal.returns-clause-err
returns-clause-err g c = there_err _ _ _ _ _ _ _ refl c.take_remark-2.ensures.err
