use Rattle.std.proofs.Common.{rules, subst, sym, ap, ◌+◌}
use Rattle.domain_svcb.proofs.ParamWalk.{Walked, at_start, walked_one, walked_all, walked_fault}
use Rattle.domain_svcb.proofs.param.check_params.Goals as goal

pub loop-rest-init : goal.loop-rest-init
loop-rest-init c = at_start c.args.octets.now

pub loop-rest-preserved : goal.loop-rest-preserved
loop-rest-preserved c =
    let rest = c.in_ok-first.first.rest.now in
    subst (λ n. Walked c.args.octets.now n rest) (ap (λ n. n + 1) (sym c.from-least.ensures)) (walked_one c.args.octets.now c.loop-rest.rest.now rest c.in_ok-first.first.value.now c.loop-rest.least c.in_ok-first.first.key c.loop-rest.invariant c.in_ok-first.ensures.ok)
