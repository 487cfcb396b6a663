use Rattle.std.proofs.Common.{subst}
use Rattle.domain_reading.specs.Faults.{NameFaultAt}
use Rattle.domain_reading.specs.declared.progress.Progress.{Progress}
use Rattle.domain_descriptor.proofs.field.name_end.Goals as goal

pub returns-in-Err-clause-err : goal.returns-in-Err-clause-err
returns-in-Err-clause-err c =
    subst (λ (w : Progress). NameFaultAt 255 c.args.message.now w.at c.in-Err.fault) c.new-found.ensures c.in-Err.ensures.fault.0
