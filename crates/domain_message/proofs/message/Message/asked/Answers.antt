use Rattle.std.proofs.Common.{inl, subst, sym}
use Rattle.std.specs.Prelude.{Some}
use Rattle.domain_parsed.specs.ParsedNames.{parsed_labels}
use Rattle.domain_message.specs.AliasParts.{Asked}
use Rattle.domain_message.specs.Messages.{message_octets}
use Rattle.domain_message.specs.Sections.{GivesQuestion}
use Rattle.domain_message.proofs.Aliases.{asked_of, no_first_of}
use Rattle.domain_message.proofs.message.Message.asked.Goals as goal

pub returns-in_default-clause-none : goal.returns-in_default-clause-none
returns-in_default-clause-none g c = λ _. inl (c.in_default.field-0, c.in_default.ensures.err)

pub returns-in_default-first-clause-none : goal.returns-in_default-first-clause-none
returns-in_default-first-clause-none g c = λ _. inl (
  c.in_default-first.field-0,
  no_first_of (message_octets c.args.self.now) c.question.result c.next.new.self c.in_default-first.field-0 c.question.ensures.message c.question.ensures.offset c.question.ensures.left
      (subst (λ r. GivesQuestion c.question.result (Some r) c.next.new.self) c.in_default-first.is c.in-Some.ensures.steps),
)

pub returns-clause-some : goal.returns-clause-some
returns-clause-some g c =
    let m = message_octets c.args.self.now in
    subst (λ n. Asked m c.in-Ok.answers (parsed_labels n)) (sym c.qname.ensures) (asked_of m c.question.result c.next.new.self c.in-Ok-first.question c.in-Ok.answers c.question.ensures.message c.question.ensures.offset
    (subst (λ r. GivesQuestion c.question.result (Some r) c.next.new.self) c.in-Ok-first.is c.in-Some.ensures.steps) c.in-Ok.ensures.ok)
