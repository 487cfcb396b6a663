use Rattle.std.proofs.Common.{rules}
use Rattle.domain_svcb.proofs.ParamsFaults.{params_missing}
use Rattle.domain_svcb.proofs.params.SvcParamsRefSliceU8ReadFieldParseError.read_field.Goals as goal

pub returns-in-Err-clause-err : goal.returns-in-Err-clause-err
returns-in-Err-clause-err c = params_missing _ _ _ c.in-Err.e _ c.peek_all.ensures (search rules) c.in-Err.ensures.err c.from.ensures
