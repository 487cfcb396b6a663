use Rattle.std.proofs.Common.{arith, refl}
use Rattle.domain_make.proofs.Opting.{read_none, read_more, read_no_more, read_all, shorter}
use Rattle.domain_make.proofs.opt.pairs_of.Goals as goal

pub loop-rest-init : goal.loop-rest-init
loop-rest-init c = read_none _ _ c.new-octets.ensures.items

pub returns-in_default-clause-none : goal.returns-in_default-clause-none
returns-in_default-clause-none c = λ _. read_no_more _ _ _ (omega arith) c.loop-rest.invariant (c.in_default.ensures.none refl)

pub loop-rest-preserved : goal.loop-rest-preserved
loop-rest-preserved c = read_more _ _ _ _ _ _ c.in_ok-append.ensures.ok c.in-Some.ensures.some c.loop-rest.invariant

pub loop-rest-smaller : goal.loop-rest-smaller
loop-rest-smaller c = omega (arith, shorter _ _ _ c.in-Some.ensures.some)

pub returns-clause-some : goal.returns-clause-some
returns-clause-some c = read_all _ _ _ (omega arith) c.loop-rest.invariant
