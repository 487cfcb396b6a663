use Rattle.std.proofs.Common.{ap, refl, ◌∙◌}
use Rattle.domain_message.specs.Messages.{message_octets}
use Rattle.domain_message_builder.specs.Answers.GivenOrRefused.{was_given, was_refused}
use Rattle.domain_message_builder.specs.Answers.RepeatsQuestion.{nothing as none_given}
use Rattle.domain_message_builder.specs.Answers.StartsError.{started}
use Rattle.domain_message_builder.proofs.Replying.{answers_header, nothing_after, repeats_after, bare_after, given_after, not_started, does_not_fit}
use Rattle.domain_message_builder.specs.Views.{state_of, target_of}
use Rattle.domain_message_builder.proofs.builder.MessageBuilder.start_error.Goals as goal

pub returns-in_default-clause-starts : goal.returns-in_default-clause-starts
returns-in_default-clause-starts g c =
    let m = message_octets c.args.query.now in
    started (nothing_after _ m _ _ _ _ (answers_header m _ _ _ _ _ c.header.ensures.id c.header.ensures.high c.header.ensures.low c.answer_header.ensures) c.set_header.ensures.header (c.in_default.ensures.none refl))

pub returns-in-Err-clause-starts : goal.returns-in-Err-clause-starts
returns-in-Err-clause-starts g c =
    let m = message_octets c.args.query.now in
    let some = c.in-Some.ensures.some in
    bare_after _ m _ _ _ _ _ _ _ _ (answers_header m _ _ _ _ _ c.header.ensures.id c.header.ensures.high c.header.ensures.low c.answer_header.ensures) c.set_header.ensures.header c.in-Err.ensures.unchanged (ap g.Target.Octets.capacity c.set_header.ensures.target) _ (record { counted = some.0; end = some.1.0; at = some.1.1 }) c.in-Err.ensures.why

pub returns-clause-starts : goal.returns-clause-starts
returns-clause-starts g c =
    let m = message_octets c.args.query.now in
    let some = c.in-Some.ensures.some in
    started (repeats_after _ m _ _ _ _ _ (answers_header m _ _ _ _ _ c.header.ensures.id c.header.ensures.high c.header.ensures.low c.answer_header.ensures) c.set_header.ensures.header _ (record { counted = some.0; end = some.1.0; at = some.1.1 }) c.in_default-push_question.ensures.ok)

pub returns-in_default-clause-written : goal.returns-in_default-clause-written
returns-in_default-clause-written g c = was_given (none_given (c.in_default.ensures.none refl) c.set_header.ensures.target)

pub returns-in-Err-clause-written : goal.returns-in-Err-clause-written
returns-in-Err-clause-written g c =
    let octets = g.Target.Octets.octets in
    let old = state_of octets c.args.self.now in
    let mid = state_of octets c.set_header.new.self in
    let some = c.in-Some.ensures.some in
    was_refused (
      _,
      not_started _ _ old mid _ _ _ _ c.set_header.ensures.header (ap g.Target.Octets.capacity c.set_header.ensures.target) _ (record { counted = some.0; end = some.1.0; at = some.1.1 }) c.in-Err.ensures.why,
      does_not_fit octets g.Target.Octets.capacity g.Target.Composer.may_append g.Target.OctetsBuilder.extends g.Target.Composer.appends _ _ (target_of c.args.self.now) (target_of c.set_header.new.self) old mid _ _ c.set_header.ensures.target c.set_header.ensures.header (record { counted = some.0; end = some.1.0; at = some.1.1 }) c.in-Err.ensures.tight,
    ) (ap (λ s. s.octets) c.in-Err.ensures.unchanged ∙ ap octets c.set_header.ensures.target) (c.in-Err.ensures.memory_unchanged ∙ ap g.Target.Composer.memory c.set_header.ensures.target)

pub returns-clause-written : goal.returns-clause-written
returns-clause-written g c =
    let some = c.in-Some.ensures.some in
    was_given (given_after _ _ _ _ _ _ _ (record { counted = some.0; end = some.1.0; at = some.1.1 }) c.set_header.ensures.target c.in_default-push_question.ensures.written)
