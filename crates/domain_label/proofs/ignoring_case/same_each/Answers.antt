use Rattle.std.proofs.Common.{arith, refl}
use Rattle.domain_label.proofs.ComparedOctets.{same_more, same_all}
use Rattle.domain_label.proofs.ignoring_case.same_each.Goals as goal

pub loop-i-init : goal.loop-i-init
loop-i-init c = (λ _. refl, λ _. refl)

pub loop-i-preserved : goal.loop-i-preserved
loop-i-preserved c =
    same_more c.loop-i.same c.args.a.now c.args.b.now c.loop-i.i _ _ c.loop-i-test.true c.requires c.to_ascii_lowercase.ensures.value c.to_ascii_lowercase-in-loop-i.ensures.value c.loop-i.invariant

pub returns : goal.returns
returns c =
    same_all c.loop-i.same c.args.a.now c.args.b.now c.loop-i.i c.loop-i-test.false (omega (arith, c.loop-i-test.false, c.requires)) c.loop-i.invariant
