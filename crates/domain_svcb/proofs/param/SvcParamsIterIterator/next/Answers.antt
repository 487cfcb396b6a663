use Rattle.std.proofs.Common.{arith, rules, ap, length, ◌∷◌}
use Rattle.domain_svcb.proofs.FirstParams.{no_params_left, never_wrong, params_after, next_param}
use Rattle.domain_svcb.proofs.param.SvcParamsIterIterator.next.Goals as goal

pub returns-then-is_empty-clause-steps : goal.returns-then-is_empty-clause-steps
returns-then-is_empty-clause-steps c =
    let none = no_params_left c.args.self.now.octets.now c.args.self.now.params (search rules) in
    (none, none)

pub unreachable-requires : goal.unreachable-requires
unreachable-requires c = never_wrong c.args.self.now.octets.now _ c.args.self.now.params (search rules) c.in_default.ensures.err

pub invariant_of-self : goal.invariant_of-self
invariant_of-self c = record {
  params = params_after c.args.self.now.octets.now _ _ _ c.args.self.now.params c.in-Ok.ensures.ok;
}

pub returns-clause-steps : goal.returns-clause-steps
returns-clause-steps c = next_param c.args.self.now.octets.now _ _ _ c.args.self.now.params c.self-2-1.given.0 c.in-Ok.ensures.ok

pub returns-clause-goes : goal.returns-clause-goes
returns-clause-goes c =
    let e = returns-clause-steps c in
    record { on = λ _. (tt, tt, omega (arith, ap (λ ps. length ps) e)); keeps = tt; rests = λ _. tt }
