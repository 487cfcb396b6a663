use Rattle.std.proofs.Common.{ap, arith, subst, sym, ◌∙◌}
use Rattle.domain_message_builder.specs.Pushes.{asked}
use Rattle.domain_message_builder.specs.Views.{state_of, target_of}
use Rattle.domain_message_builder.specs.SectionErrors.{push_error}
use Rattle.examples.proofs.Built.{Asks, asks, is_answer, none_set, not_begun, not_asked_of, not_answered}
use Rattle.examples.specs.Built.NotAnswered.{not_asked}
use Rattle.examples.proofs.sections.answer_by_sections.Goals as goal

pub returns-in-Err-clause-none : goal.returns-in-Err-clause-none
returns-in-Err-clause-none g c none = not_asked (not_begun _ _ _ _ 512 _ (omega arith) c.in-Err.ensures.why)

pub returns-in-Err-push-clause-none : goal.returns-in-Err-push-clause-none
returns-in-Err-push-clause-none g c none =
    let octets = g.Target.Octets.octets in
    let begun = c.in-Ok.ensures.ok in
    let kept = c.from_builder-questions.ensures.same (none_set _ _ 512 _ _ begun c.set_header.ensures.header) in
    let set = ap (λ b. state_of octets b) kept ∙ c.set_header.ensures.header in
    not_asked (not_asked_of _ _ _ _ _ _ 512 _ _ (push_error c.in-Err-push._refused) begun set
    (omega (arith, c.in-Ok.ensures.capacity, ap g.Target.Octets.capacity c.set_header.ensures.target, c.from_builder-questions.ensures.capacity)) c.in-Err-push.ensures.why)

pub returns-in-Err-push-2-clause-none : goal.returns-in-Err-push-2-clause-none
returns-in-Err-push-2-clause-none g c none =
    let octets = g.Target.Octets.octets in
    let capacity = g.Target.Octets.capacity in
    let begun = c.in-Ok.ensures.ok in
    let kept = c.from_builder-questions.ensures.same (none_set _ _ 512 _ _ begun c.set_header.ensures.header) in
    let set = ap (λ b. state_of octets b) kept ∙ c.set_header.ensures.header in
    let asks_first = asks _ _ _ 512 _ _ _ begun set c.in_default.ensures.ok in
    let moved = ap (λ b. state_of octets b) c.answer-answers.ensures in
    let asks_then = subst (λ s. Asks g.Target.Composer.compresses c.args.header (asked g.N.NameLabels.labels c.args.question.now) 512 s) (sym moved) asks_first in
    not_answered _ _ _ _ _ _ _ _ 512 _ (push_error c.in-Err-push-2._refused) asks_then
    (omega (arith, c.in-Ok.ensures.capacity, ap capacity c.set_header.ensures.target, c.from_builder-questions.ensures.capacity, c.in_default.ensures.capacity, ap (λ b. capacity (target_of b)) c.answer-answers.ensures)) c.in-Err-push-2.ensures.why

pub returns-clause-ok : goal.returns-clause-ok
returns-clause-ok g c =
    let octets = g.Target.Octets.octets in
    let begun = c.in-Ok.ensures.ok in
    let kept = c.from_builder-questions.ensures.same (none_set _ _ 512 _ _ begun c.set_header.ensures.header) in
    let set = ap (λ b. state_of octets b) kept ∙ c.set_header.ensures.header in
    let asks_first = asks _ _ _ 512 _ _ _ begun set c.in_default.ensures.ok in
    let moved = ap (λ b. state_of octets b) c.answer-answers.ensures in
    let asks_then = subst (λ s. Asks g.Target.Composer.compresses c.args.header (asked g.N.NameLabels.labels c.args.question.now) 512 s) (sym moved) asks_first in
    is_answer _ _ _ _ _ _ _ _ asks_then c.in_default-push.ensures.ok c.finish.ensures.message c.finish.ensures.octets c.finish.ensures.within
