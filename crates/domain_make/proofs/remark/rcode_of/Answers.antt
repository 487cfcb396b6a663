use Rattle.std.proofs.Common.{arith, refl}
use Rattle.domain_make.proofs.remark.rcode_of.Goals as goal

pub returns-clause-err : goal.returns-clause-err
returns-clause-err c = ((refl, refl), λ n is. c.loop-number.invariant n (omega (arith, is.0)) is.1)
