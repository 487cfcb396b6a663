use Rattle.std.proofs.Common.{arith}
use Rattle.domain_descriptor.proofs.Whole.{no_first_fault, others_whole, one_less, size_inside, names_here}
use Rattle.domain_descriptor.proofs.rdata.FieldIterIterator.next.Goals as goal

pub unreachable-requires : goal.unreachable-requires
unreachable-requires c =
    let s = c.args.self.now in
    no_first_fault s.kinds.now _ _ s.message.now s.at _ c.in_ok-kind.ensures.cases.0 s.whole c.in_default.ensures.err

pub invariant_of-self : goal.invariant_of-self
invariant_of-self c =
    let s = c.args.self.now in
    record {
      inside = c.in-Ok.ensures.inside;
      whole = others_whole s.kinds.now _ _ s.message.now s.at _ c.in_ok-kind.ensures.cases.0 s.whole c.in-Ok.ensures.ok;
    }

pub invariant_of-result-clause-sized : goal.invariant_of-result-clause-sized
invariant_of-result-clause-sized c = size_inside _ _ _ _ c.in-Ok.ensures.ok

pub invariant_of-result-clause-named : goal.invariant_of-result-clause-named
invariant_of-result-clause-named c = names_here _ _ _ _ c.in-Ok.ensures.ok

pub returns-clause-goes : goal.returns-clause-goes
returns-clause-goes c =
    let less = one_less c.args.self.now.kinds.now _ _ c.in_ok-kind.ensures.cases.0 in
    record { on = λ _. (tt, tt, omega (arith, less)); keeps = tt; rests = λ _. tt }
