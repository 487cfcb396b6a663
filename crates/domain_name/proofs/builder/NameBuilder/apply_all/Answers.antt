use Rattle.std.proofs.Common.{◌+◌, drop, rules, arith}
use Rattle.domain_name.specs.Builders.{held}
use Rattle.domain_name.proofs.Calling.{take_call, pass_call, no_call, same_count, next_call, last_call}
use Rattle.domain_name.proofs.builder.NameBuilder.apply_all.Goals as goal
use Rattle.domain_name.proofs.builder.NameBuilder.apply_all.Goals.{then-apply, else-apply}

pub loop-call-preserved : goal.loop-call-preserved
loop-call-preserved g c = elim c.if-apply.branch [
  | then-apply w ↦ record {
    applied = λ new k h. same_count g.B.Octets.limit (held c.args.self.now) new c.args.calls.now (k + 1 + c.loop-call.accepted) (k + c.if-apply.accepted) (omega (arith, w.accepted-is))
        (c.loop-call.invariant.applied new (k + 1) (take_call g.B.Octets.limit (held c.loop-call.self) (held c.apply.new.self) new c.call-item.result (drop c.loop-call.call-index c.args.calls.now) (drop (c.loop-call.call-index + 1) c.args.calls.now) k (next_call c.args.calls.now c.loop-call.call-index c.call-item.result c.loop-call-test.true (search rules)) w.if-apply.ensures h));
    count = omega (arith, w.accepted-is, c.loop-call.invariant.count);
    capacity = omega (arith, c.loop-call.invariant.capacity, w.if-apply.ensures.1);
  }
  | else-apply w ↦ record {
    applied = λ new k h. same_count g.B.Octets.limit (held c.args.self.now) new c.args.calls.now (k + c.loop-call.accepted) (k + c.if-apply.accepted) (omega (arith, w.accepted-is))
        (c.loop-call.invariant.applied new k (pass_call g.B.Octets.limit (held c.loop-call.self) (held c.apply.new.self) new c.call-item.result (drop c.loop-call.call-index c.args.calls.now) (drop (c.loop-call.call-index + 1) c.args.calls.now) k (next_call c.args.calls.now c.loop-call.call-index c.call-item.result c.loop-call-test.true (search rules)) w.if-apply.ensures h));
    count = omega (arith, w.accepted-is, c.loop-call.invariant.count);
    capacity = omega (arith, c.loop-call.invariant.capacity, w.if-apply.ensures.1);
  }
]

pub returns-clause-applied : goal.returns-clause-applied
returns-clause-applied g c =
    same_count g.B.Octets.limit (held c.args.self.now) (held c.loop-call.self) c.args.calls.now (0 + c.loop-call.accepted) c.loop-call.accepted (omega arith)
    (c.loop-call.invariant.applied (held c.loop-call.self) 0 (no_call g.B.Octets.limit (held c.loop-call.self) (drop c.loop-call.call-index c.args.calls.now) (last_call c.args.calls.now c.loop-call.call-index c.loop-call-test.false)))
