use Rattle.std.proofs.Common.{◌≡◌, ◌∷◌, length, ap, arith}
use Rattle.domain_stream.specs.Framing.{messages_in}
use Rattle.domain_stream.specs.Views.{messages_left}
use Rattle.domain_stream.proofs.messages.StreamMessagesIterator.next.Goals as goal

pub returns-clause-goes : goal.returns-clause-goes
returns-clause-goes c =
    let left = messages_in c.in_ok-message.rest.now in
    let e : messages_left c.args.self.now ≡ c.in_ok-message.message.now ∷ left = c.in_ok-message.ensures.messages.messages in
    record { on = λ _. (tt, tt, omega (arith, ap (λ ms. length ms) e)); keeps = tt; rests = λ _. tt }
