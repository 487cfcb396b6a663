use Rattle.std.proofs.Common.{arith, refl, inr}
use Rattle.std.proofs.lemmas.Option.{IfSome_then}
use Rattle.domain_parsed.specs.ParsedNames.{parsed_labels}
use Rattle.domain_message.specs.Messages.{message_octets}
use Rattle.domain_message.proofs.Aliases.{or_more, within_end, within_on}
use Rattle.domain_message.proofs.message.Message.canonical_name_counted.Goals as goal

pub returns-in_default-clause-none : goal.returns-in_default-clause-none
returns-in_default-clause-none g c = λ _. or_more (c.in_default.ensures.none refl)

pub returns-clause-some : goal.returns-clause-some
returns-clause-some g c =
    IfSome_then c.end_of_chain.result c.end_of_chain.ensures.some (λ end leads.
    within_end (message_octets c.args.self.now) c.in-Some.answers (parsed_labels c.in-Some.name) (parsed_labels end) c.args.limit _ c.in-Some.ensures.some (omega (arith, c.from.ensures)) leads)

pub returns-clause-none : goal.returns-clause-none
returns-clause-none g c = λ none.
    inr (inr (within_on (message_octets c.args.self.now) c.in-Some.answers (parsed_labels c.in-Some.name) c.args.limit _ c.in-Some.ensures.some (omega (arith, c.from.ensures)) (c.end_of_chain.ensures.none none)))
