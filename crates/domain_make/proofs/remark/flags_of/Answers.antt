use Rattle.domain_make.proofs.Marking.{flags_lack}
use Rattle.domain_make.proofs.Telling.{passed_on}
use Rattle.domain_make.proofs.remark.flags_of.Goals as goal

pub returns-in_err-header_part-clause-err : goal.returns-in_err-header_part-clause-err
returns-in_err-header_part-clause-err c = passed_on _ _ _ c.from_residual.ensures.1 (flags_lack c.args.text.now c.flags_before.result.1.now _ c.flags_before.ensures.only c.in_err-header_part.ensures.err)
