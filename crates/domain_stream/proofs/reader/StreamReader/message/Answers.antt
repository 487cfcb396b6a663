use Rattle.std.proofs.Common.{List, ℕ, subst}
use Rattle.domain_stream.specs.Framing.{BeginsWithMessage}
use Rattle.domain_stream.proofs.Holding.{is_one}
use Rattle.domain_stream.proofs.reader.StreamReader.message.Goals as goal

pub returns : goal.returns
returns g c =
    let Begins : List ℕ → Type 0 = λ o. BeginsWithMessage o c.in_ok-message.message.now c.in_ok-message.field-0-1.now in
    is_one _ _ _ c.args.self.now.one (subst Begins c.as_slice.ensures.octets c.in_ok-message.ensures.parts)
