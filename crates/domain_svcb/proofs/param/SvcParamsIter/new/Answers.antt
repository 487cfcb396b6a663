use Rattle.domain_svcb.proofs.FirstParams.{same_params}
use Rattle.domain_svcb.proofs.param.SvcParamsIter.new.Goals as goal

pub returns : goal.returns
returns c = λ h. same_params c.args.octets.now c.result-1.given.0 h
