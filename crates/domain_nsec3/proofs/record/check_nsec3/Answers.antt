use Rattle.domain_nsec3.proofs.Fields.{nsec3_ends}
use Rattle.domain_nsec3.proofs.record.check_nsec3.Goals as goal

pub returns-clause-salt : goal.returns-clause-salt
returns-clause-salt c = (nsec3_ends c.args.data.now c.in_ok-check_data.ensures.ok).0

pub returns-clause-next : goal.returns-clause-next
returns-clause-next c = (nsec3_ends c.args.data.now c.in_ok-check_data.ensures.ok).1
