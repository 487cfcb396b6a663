use Rattle.domain_make.proofs.Entering.{record_refused, record_stopped}
use Rattle.domain_make.proofs.Telling.{passed_on}
use Rattle.domain_make.proofs.entry.push_record.Goals as goal

pub returns-in_err-resource-clause-err : goal.returns-in_err-resource-clause-err
returns-in_err-resource-clause-err g c = passed_on _ _ _ c.from_residual.ensures.1 (record_refused _ _ _ _ _ _ c.in_err-resource.ensures.err)

pub returns-clause-err : goal.returns-clause-err
returns-clause-err g c = record_stopped _ _ _ _ _ _ _ _ _ c.in-Err.e _ c.in_ok-resource.ensures.ok c.in-Err.ensures.why c.first_column.ensures c.refused.ensures
