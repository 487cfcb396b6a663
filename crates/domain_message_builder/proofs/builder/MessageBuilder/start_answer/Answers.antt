use Rattle.std.proofs.Common.{refl}
use Rattle.domain_message.specs.Messages.{message_octets}
use Rattle.domain_message_builder.proofs.Replying.{answers_header, nothing_after, repeats_after, given_after, asks_or_not}
use Rattle.domain_message_builder.specs.Answers.RepeatsQuestion.{nothing}
use Rattle.domain_message_builder.proofs.builder.MessageBuilder.start_answer.Goals as goal

pub returns-in_default-clause-ok : goal.returns-in_default-clause-ok
returns-in_default-clause-ok g c =
    let m = message_octets c.args.query.now in
    nothing_after _ m _ _ _ _ (answers_header m _ _ _ _ _ c.header.ensures.id c.header.ensures.high c.header.ensures.low c.answer_header.ensures) c.set_header.ensures.header (c.in_default.ensures.none refl)

pub returns-clause-ok : goal.returns-clause-ok
returns-clause-ok g c =
    let m = message_octets c.args.query.now in
    let some = c.in-Some.ensures.some in
    repeats_after _ m _ _ _ _ _ (answers_header m _ _ _ _ _ c.header.ensures.id c.header.ensures.high c.header.ensures.low c.answer_header.ensures) c.set_header.ensures.header _ (record { counted = some.0; end = some.1.0; at = some.1.1 }) c.in_default-push_question.ensures.ok

pub returns-in_default-clause-written : goal.returns-in_default-clause-written
returns-in_default-clause-written g c = nothing (c.in_default.ensures.none refl) c.set_header.ensures.target

pub returns-clause-written : goal.returns-clause-written
returns-clause-written g c =
    let some = c.in-Some.ensures.some in
    given_after _ _ _ _ _ _ _ (record { counted = some.0; end = some.1.0; at = some.1.1 }) c.set_header.ensures.target c.in_default-push_question.ensures.written

pub returns-in_default-clause-order : goal.returns-in_default-clause-order
returns-in_default-clause-order g c records asks = absurd (asks_or_not (message_octets c.args.query.now) asks (c.in_default.ensures.none refl))

pub returns-in_default-clause-count : goal.returns-in_default-clause-count
returns-in_default-clause-count g c records most asks = absurd (asks_or_not (message_octets c.args.query.now) asks (c.in_default.ensures.none refl))

pub returns-in-Err-clause-none : goal.returns-in-Err-clause-none
returns-in-Err-clause-none g c nothing_asked =
    let some = c.in-Some.ensures.some in
    absurd (asks_or_not (message_octets c.args.query.now) (_, record { counted = some.0; end = some.1.0; at = some.1.1 }) nothing_asked)
