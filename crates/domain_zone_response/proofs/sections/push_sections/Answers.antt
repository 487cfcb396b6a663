use Rattle.std.proofs.Common.{ap, subst, ◌∙◌, length, arith, length-append}
use Rattle.std.proofs.lemmas.List.{length-map}
use Rattle.domain_header.specs.Values.{class_number}
use Rattle.domain_message.specs.declared.section.Section.TheVariants.{Answer, Authority}
use Rattle.domain_message_builder.specs.Builders.{state, target_room}
use Rattle.domain_zone_response.specs.Pushing.{all_records, Fills, Stops}
use Rattle.domain_zone_response.proofs.Filling.{left_answer, left_authority, left_glue, all_required}
use Rattle.domain_zone_response.proofs.sections.push_sections.Goals as goal
use Rattle.domain_zone_signed.specs.SignedViews.{response_view, response_views, signed_sections}

pub returns-then-not-push_required-clause-puts : goal.returns-then-not-push_required-clause-puts
returns-then-not-push_required-clause-puts g c =
    let s = subst (λ l. Stops g.Target.Composer.compresses Answer (class_number c.args.class) l (target_room c.args.message.now) (state c.args.message.now) (state c.push_required.new.message))
    c.answers.ensures (c.push_required.ensures.stops c.if-not-push_required.true) in
    left_answer _ _ _ (signed_sections c.args.response.now) _ _ _ s.0 s.1

pub returns-then-not-push_required-2-clause-puts : goal.returns-then-not-push_required-2-clause-puts
returns-then-not-push_required-2-clause-puts g c =
    let answers = subst (λ l. Fills g.Target.Composer.compresses Answer (all_records (class_number c.args.class) l) (state c.args.message.now) (state c.push_required.new.message))
    c.answers.ensures (c.push_required.ensures.pushed c.if-not-push_required.false) in
    let s = subst (λ l. Stops g.Target.Composer.compresses Authority (class_number c.args.class) l (target_room c.push_required.new.message) (state c.push_required.new.message) (state c.push_required-2.new.message))
    c.authority.ensures (c.push_required-2.ensures.stops c.if-not-push_required-2.true) in
    left_authority _ _ _ (signed_sections c.args.response.now) _ _ _ _ _ c.push_required.ensures.capacity answers s.0 s.1

pub returns-then-count-glue-clause-puts : goal.returns-then-count-glue-clause-puts
returns-then-count-glue-clause-puts g c =
    let answers = subst (λ l. Fills g.Target.Composer.compresses Answer (all_records (class_number c.args.class) l) (state c.args.message.now) (state c.push_required.new.message))
    c.answers.ensures (c.push_required.ensures.pushed c.if-not-push_required.false) in
    let glue = c.in_ok-glue.ensures in
    let is = ap response_views c.as_slice.ensures.value ∙ glue.sets in
    let authority = subst (λ l. Fills g.Target.Composer.compresses Authority (all_records (class_number c.args.class) l) (state c.push_required.new.message) (state c.push_required-2.new.message))
    c.authority.ensures (c.push_required-2.ensures.pushed c.if-not-push_required-2.false) in
    let len = ap length is ∙ length-append glue.ys glue.zs in
    let s = c.push_most-count.ensures.stops (omega (arith, len, length-map c.as_slice.result.now response_view, glue.required, c.if-count-glue.true)) in
    left_glue _ _ _ (signed_sections c.args.response.now) _ _ _ _ _ _ _ (response_views c.as_slice.result.now) glue.ys glue.zs (omega (arith, c.push_required.ensures.capacity, c.push_required-2.ensures.capacity))
    answers authority s.0 s.1 c.push_most-count.ensures.fills glue.parts is (omega (arith, glue.required, c.if-count-glue.true))

pub returns-clause-puts : goal.returns-clause-puts
returns-clause-puts g c =
    let answers = subst (λ l. Fills g.Target.Composer.compresses Answer (all_records (class_number c.args.class) l) (state c.args.message.now) (state c.push_required.new.message))
    c.answers.ensures (c.push_required.ensures.pushed c.if-not-push_required.false) in
    let glue = c.in_ok-glue.ensures in
    let is = ap response_views c.as_slice.ensures.value ∙ glue.sets in
    let authority = subst (λ l. Fills g.Target.Composer.compresses Authority (all_records (class_number c.args.class) l) (state c.push_required.new.message) (state c.push_required-2.new.message))
    c.authority.ensures (c.push_required-2.ensures.pushed c.if-not-push_required-2.false) in
    all_required _ _ _ (signed_sections c.args.response.now) _ _ _ _ _ _ (response_views c.as_slice.result.now) glue.ys glue.zs
    answers authority c.push_most-count.ensures.fills glue.parts is (omega (arith, glue.required, c.if-count-glue.false))
