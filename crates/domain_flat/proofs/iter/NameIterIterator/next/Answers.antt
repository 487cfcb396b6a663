use Rattle.std.proofs.Common.{◌≡◌, ◌∷◌, length, ap, arith}
use Rattle.domain_flat.specs.FlatLabels.{flat_labels_left}
use Rattle.domain_label.specs.Wire.{labels_in}
use Rattle.domain_flat.proofs.iter.NameIterIterator.next.Goals as goal

pub returns-clause-steps : goal.returns-clause-steps
returns-clause-steps c =
    let label = rw c.unwrap.ensures at c.from_slice.ensures.ok in
    rw label c.in_ok-label.ensures.parts

pub returns-clause-goes : goal.returns-clause-goes
returns-clause-goes c =
    let left = labels_in c.in_ok-label.rest.now in
    let e : flat_labels_left c.args.self.now ≡ c.in_ok-label.label.now ∷ left = c.in_ok-label.ensures.parts in
    record { on = λ _. (tt, tt, omega (arith, ap (λ ls. length ls) e)); keeps = tt; rests = λ _. tt }
