use Rattle.std.proofs.Common.{◌≡◌, [], ap, arith, rules, ◌∙◌}
use Rattle.domain_message_builder.specs.Opt.{bare_opt, with_size}
use Rattle.domain_message_builder.specs.OptViews.{opt_of}
use Rattle.examples.specs.Built.{sized_opt}
use Rattle.examples.specs.Built.NotSized.{no_question}
use Rattle.examples.proofs.Built.{asks, is_sized, not_begun, not_asked_of, not_sized}
use Rattle.examples.proofs.building.sized_query.Goals as goal

pub returns-in-Err-clause-none : goal.returns-in-Err-clause-none
returns-in-Err-clause-none g c none = no_question (not_begun _ _ _ _ 65535 _ (omega arith) c.in-Err.ensures.why)

pub returns-in-Err-push_question-clause-none : goal.returns-in-Err-push_question-clause-none
returns-in-Err-push_question-clause-none g c none =
    no_question (not_asked_of _ _ _ _ _ _ 65535 _ _ _ c.in-Ok-from_target.ensures.ok c.set_header.ensures.header
    (omega (arith, c.in-Ok-from_target.ensures.capacity, ap g.Target.Octets.capacity c.set_header.ensures.target)) c.in-Err-push_question.ensures.why)

pub returns-in-Err-push_opt-clause-none : goal.returns-in-Err-push_opt-clause-none
returns-in-Err-push_opt-clause-none g c none =
    let size = c.args.udp_payload_size in
    let bare : opt_of c.in-Ok.opt ≡ bare_opt [] = search rules in
    let same : opt_of c.set_udp_payload_size.new.self ≡ sized_opt size = c.set_udp_payload_size.ensures ∙ ap (with_size size) bare in
    not_sized _ _ _ size _ _ _ _ 65535 _ same (asks _ _ _ _ _ _ _ c.in-Ok-from_target.ensures.ok c.set_header.ensures.header c.in_default-push_question.ensures.ok)
    (omega (arith, c.in-Ok-from_target.ensures.capacity, ap g.Target.Octets.capacity c.set_header.ensures.target, c.in_default-push_question.ensures.capacity)) c.in-Err-push_opt.ensures.no_room

pub returns-clause-ok : goal.returns-clause-ok
returns-clause-ok g c =
    let size = c.args.udp_payload_size in
    let bare : opt_of c.in-Ok.opt ≡ bare_opt [] = search rules in
    let same : opt_of c.set_udp_payload_size.new.self ≡ sized_opt size = c.set_udp_payload_size.ensures ∙ ap (with_size size) bare in
    is_sized _ _ _ size 65535 _ _ _ _ same (asks _ _ _ _ _ _ _ c.in-Ok-from_target.ensures.ok c.set_header.ensures.header c.in_default-push_question.ensures.ok) c.in_default-push_opt.ensures.ok c.finish.ensures.message
