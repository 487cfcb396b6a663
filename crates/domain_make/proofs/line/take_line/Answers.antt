use Rattle.std.proofs.Common.{refl}
use Rattle.domain_make.proofs.Drafting.{there_at}
use Rattle.domain_make.proofs.Refusing.{refused_at}
use Rattle.domain_make.proofs.line.take_line.Goals as goal

pub returns-in-Ok-clause-ok : goal.returns-in-Ok-clause-ok
returns-in-Ok-clause-ok g c = there_at _ _ _ _ _ _ _ _ _ refl c.settled.ensures c.in-Ok.ensures.ok

pub returns-in-Err-clause-err : goal.returns-in-Err-clause-err
returns-in-Err-clause-err g c = refused_at _ _ _ _ _ _ _ refl c.in-Err.ensures.err
