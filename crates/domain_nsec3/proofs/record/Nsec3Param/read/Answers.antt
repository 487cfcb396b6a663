use Rattle.std.proofs.Common.{arith, rules}
use Rattle.std.proofs.lemmas.List.{take_rest}
use Rattle.domain_nsec3.proofs.Fields.{param_joined}
use Rattle.domain_nsec3.proofs.record.Nsec3Param.read.Goals as goal

pub returns-clause-ok : goal.returns-clause-ok
returns-clause-ok c =
    param_joined c.args.data.now _ _ (λ i. (c.type_inv.data i).fits) (omega (arith, c.in_ok-check_nsec3param.ensures.salt)) c.in_ok-check_nsec3param.ensures.salt (search rules) (take_rest c.args.data.now 5)
