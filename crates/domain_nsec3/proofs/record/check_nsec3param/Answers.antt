use Rattle.domain_nsec3.proofs.Fields.{param_end}
use Rattle.domain_nsec3.proofs.record.check_nsec3param.Goals as goal

pub returns-clause-salt : goal.returns-clause-salt
returns-clause-salt c = param_end c.args.data.now c.in_ok-check_data.ensures.ok
