use Rattle.std.proofs.Common.{◌≡◌, ◌∷◌, length, ap, arith}
use Rattle.domain_txt.specs.Strings.{strings_in}
use Rattle.domain_txt.specs.TxtViews.{strings_left}
use Rattle.domain_txt.proofs.txt_iter.TxtIterIterator.next.Goals as goal

pub returns-clause-goes : goal.returns-clause-goes
returns-clause-goes c =
    let left = strings_in c.in_ok-string.rest.now in
    let e : strings_left c.args.self.now ≡ c.in_ok-string.string.now ∷ left = c.in_ok-string.ensures.parts in
    record { on = λ _. (tt, tt, omega (arith, ap (λ ss. length ss) e)); keeps = tt; rests = λ _. tt }
