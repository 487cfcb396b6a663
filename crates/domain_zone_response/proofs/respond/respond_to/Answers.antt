use Rattle.std.proofs.Common.{ap}
use Rattle.domain_header.specs.Values.{class_number}
use Rattle.domain_message.specs.Messages.{message_octets}
use Rattle.domain_message.specs.Models.{question_fields}
use Rattle.domain_message_builder.specs.Builders.{state}
use Rattle.domain_message_builder.specs.OptViews.{opt_given}
use Rattle.domain_zone_response.specs.Queries.{asked_fields}
use Rattle.domain_zone_response.proofs.Lacking.{lacks_answer, lacks_opt, lacks_refusal}
use Rattle.domain_zone_response.proofs.Responding.{tells_opt, responds_answered, responds_refused, answerable}
use Rattle.domain_zone_response.proofs.respond.respond_to.Goals as goal

pub returns-in-Err-answer_from-clause-why : goal.returns-in-Err-answer_from-clause-why
returns-in-Err-answer_from-clause-why g c room =
    lacks_answer _ c.args.server c.opt_of-asked.result _ (question_fields c.in-Ok-question.question) (opt_given c.opt_for-opt.result) _ _ _ _ _ (message_octets c.in-Ok.query) c.args.query.now (state c.in-Ok-begin.message)
    (ap (λ b. b.now) c.in-Ok.ensures.ok) (tells_opt _ _ c.opt_of-asked.ensures.ok c.opt_of-asked.ensures.err) c.question_of-question.ensures (ap asked_fields c.in-Ok-question.is)
    c.limit_of.ensures c.in-Ok-begin.ensures.begun c.in-Ok-begin.ensures.capacity (c.in-Err-answer_from.ensures.why room)

pub returns-in-Ok-finish_answer-clause-responds : goal.returns-in-Ok-finish_answer-clause-responds
returns-in-Ok-finish_answer-clause-responds g c =
    responds_answered _ _ _ _ _ c.args.server _ _ _ _ _ (message_octets c.in-Ok.query) c.args.query.now _ _ c.opt_of-asked.result _ _ _ _ _
    (ap (λ b. b.now) c.in-Ok.ensures.ok) (ap class_number c.class.ensures) (tells_opt _ _ c.opt_of-asked.ensures.ok c.opt_of-asked.ensures.err) c.question_of-question.ensures (ap asked_fields c.in-Ok-question.is)
    c.asks_dnssec.ensures c.opt_for-opt.ensures c.upper_of.ensures c.limit_of.ensures c.header-in-Ok-question.ensures.id c.header-in-Ok-question.ensures.high
    c.in-Ok-begin.ensures.begun c.in-Ok-begin.ensures.capacity c.answer_from.ensures.capacity c.in_default-answer_from.ensures.answers c.in-Ok-finish_answer.ensures.ok

pub returns-in-Err-finish_answer-clause-why : goal.returns-in-Err-finish_answer-clause-why
returns-in-Err-finish_answer-clause-why g c room =
    lacks_opt _ _ _ _ _ _ c.args.server c.opt_of-asked.result _ (question_fields c.in-Ok-question.question) (opt_given c.opt_for-opt.result) _ _ _ _ _ _ (message_octets c.in-Ok.query) c.args.query.now _ _
    (ap (λ b. b.now) c.in-Ok.ensures.ok) (tells_opt _ _ c.opt_of-asked.ensures.ok c.opt_of-asked.ensures.err) c.question_of-question.ensures (ap asked_fields c.in-Ok-question.is) c.opt_for-opt.ensures c.limit_of.ensures
    c.in-Ok-begin.ensures.begun c.in-Ok-begin.ensures.capacity c.in_default-answer_from.ensures.answers c.answer_from.ensures.capacity c.in-Err-finish_answer.ensures.why

pub returns-in-Ok-refuse-clause-responds : goal.returns-in-Ok-refuse-clause-responds
returns-in-Ok-refuse-clause-responds g c =
    responds_refused _ _ _ _ c.args.server _ _ _ c.in-Err-question.code (message_octets c.in-Ok.query) c.args.query.now _ c.opt_of-asked.result _ _ _
    (ap (λ b. b.now) c.in-Ok.ensures.ok) (ap class_number c.class.ensures) (tells_opt _ _ c.opt_of-asked.ensures.ok c.opt_of-asked.ensures.err) c.question_of-question.ensures (ap asked_fields c.in-Err-question.is)
    c.opt_for-opt.ensures c.upper_of.ensures c.limit_of.ensures c.in-Ok-begin.ensures.begun c.in-Ok-refuse.ensures.ok

pub returns-in-Err-refuse-clause-why : goal.returns-in-Err-refuse-clause-why
returns-in-Err-refuse-clause-why g c room =
    lacks_refusal _ c.args.server c.opt_of-asked.result (opt_given c.opt_for-opt.result) _ _ _ _ _ (message_octets c.in-Ok.query) c.args.query.now (state c.in-Ok-begin.message)
    (ap (λ b. b.now) c.in-Ok.ensures.ok) (tells_opt _ _ c.opt_of-asked.ensures.ok c.opt_of-asked.ensures.err) c.opt_for-opt.ensures c.limit_of.ensures
    c.in-Ok-begin.ensures.begun c.in-Ok-begin.ensures.capacity c.in-Err-refuse.ensures.why

pub returns-in-Err-answer_from-clause-memory : goal.returns-in-Err-answer_from-clause-memory
returns-in-Err-answer_from-clause-memory g c memory =
    answerable _ _ (message_octets c.in-Ok.query) c.args.query.now c.opt_of-asked.result _ (question_fields c.in-Ok-question.question)
    (ap (λ b. b.now) c.in-Ok.ensures.ok) (ap class_number c.class.ensures) (tells_opt _ _ c.opt_of-asked.ensures.ok c.opt_of-asked.ensures.err) c.question_of-question.ensures (ap asked_fields c.in-Ok-question.is)
