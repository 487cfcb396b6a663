use Rattle.std.proofs.Common.{arith, refl, ap, sym, ◌∙◌, length, ◌+◌, ◌∷◌}
use Rattle.domain_dnssec.specs.TypeViews.{types_left}
use Rattle.domain_dnssec.specs.declared.type_blocks.TypesIter.{TypesIter}
use Rattle.domain_dnssec.proofs.TypesWalk.{one_type}
use Rattle.domain_dnssec.proofs.type_blocks.TypesIterIterator.next.Goals as goal

pub returns-in-Some-clause-steps : goal.returns-in-Some-clause-steps
returns-in-Some-clause-steps c =
    let self = c.loop-bit.self in
    let it : TypesIter = record { first = self.first; octet = c.in-Some.octet; bitmap = self.bitmap; later = self.later; within = c.self-1.given.0; rest = c.self-1.given.1.0 } in
    sym c.loop-bit.invariant ∙ (one_type self it c.in-Some.bit c.in-Some.ensures.bits refl refl refl ∙ ap (λ n. n ∷ types_left it) (ap (λ n. self.first + n) (sym c.from.ensures) ∙ sym c.from_int.ensures))

pub returns-in-Some-clause-goes : goal.returns-in-Some-clause-goes
returns-in-Some-clause-goes c =
    let e = returns-in-Some-clause-steps c in
    record { on = λ _. (tt, tt, omega (arith, ap (λ ts. length ts) e)); keeps = tt; rests = λ _. tt }
