use Rattle.std.proofs.Common.{subst}
use Rattle.domain_make.specs.Remarks.{Remarks}
use Rattle.domain_make.proofs.Drafting.{takes_remark}
use Rattle.domain_make.proofs.Refusing.{refuses_remark}
use Rattle.domain_make.proofs.Telling.{if_refused}
use Rattle.domain_make.proofs.line.take_remark.Goals as goal

pub returns-in-Ok-clause-ok : goal.returns-in-Ok-clause-ok
returns-in-Ok-clause-ok g c =
    takes_remark _ _ _ _ _ _ _ _ c.requires.remark c.trimmed.ensures (subst (λ h. Remarks c.trimmed.result.now c.args.stage h c.in-Ok.next c.in-Ok.header) c.header-header.ensures c.in-Ok.ensures.ok) c.set_header.ensures.header

pub returns-in-Err-clause-err : goal.returns-in-Err-clause-err
returns-in-Err-clause-err g c = if_refused _ _ _ (λ f k lack. refuses_remark _ _ _ _ _ f k c.requires.remark c.trimmed.ensures (c.requires.no_opt _ c.trimmed.ensures) lack) c.in-Err.ensures.err
