use Rattle.std.proofs.Common.{ap, arith, subst}
use Rattle.domain_header.specs.Headers.{SetsHigh}
use Rattle.examples.proofs.Replies.{begun_answer, marked_answer, is_authoritative, has_aa, cannot_begin, cannot_repeat, lacks_answer, lacks_ns}
use Rattle.examples.specs.Served.LacksRecord.{not_begun}
use Rattle.examples.proofs.authoritative.authoritative_answer.Goals as goal

pub returns-in-Err-clause-none : goal.returns-in-Err-clause-none
returns-in-Err-clause-none g c none = not_begun (cannot_begin _ _ _ _ 65535 _ (omega arith) c.in-Err.ensures.why)

pub returns-in-Err-start_answer-clause-none : goal.returns-in-Err-start_answer-clause-none
returns-in-Err-start_answer-clause-none g c none =
    not_begun (cannot_repeat _ _ _ _ _ 65535 _ _ c.in-Ok.ensures.ok c.in-Ok.ensures.capacity c.in-Err-start_answer.ensures.why)

pub returns-in-Err-push-clause-none : goal.returns-in-Err-push-clause-none
returns-in-Err-push-clause-none g c none =
    let begun = begun_answer _ _ 0 _ 65535 _ _ c.masked_from_int.ensures c.in-Ok.ensures.ok c.in_default.ensures.ok in
    lacks_answer _ _ _ _ _ _ _ _ _ 65535 _ _ _ (marked_answer _ _ _ _ _ _ _ begun c.set_header.ensures.header)
    (omega (arith, c.in-Ok.ensures.capacity, c.start_answer.ensures.capacity, ap g.Target.Octets.capacity c.set_header.ensures.target)) c.in-Err-push.ensures.why

pub returns-in-Err-push-2-clause-none : goal.returns-in-Err-push-2-clause-none
returns-in-Err-push-2-clause-none g c none =
    let begun = begun_answer _ _ 0 _ 65535 _ _ c.masked_from_int.ensures c.in-Ok.ensures.ok c.in_default.ensures.ok in
    lacks_ns _ _ _ _ _ _ _ _ _ 65535 _ _ _ _ (marked_answer _ _ _ _ _ _ _ begun c.set_header.ensures.header) c.in_default-push.ensures.ok
    (omega (arith, c.in-Ok.ensures.capacity, c.start_answer.ensures.capacity, c.push.ensures.capacity, ap g.Target.Octets.capacity c.set_header.ensures.target)) c.in-Err-push-2.ensures.why

pub returns-clause-ok : goal.returns-clause-ok
returns-clause-ok g c =
    let begun = begun_answer _ _ 0 _ 65535 _ _ c.masked_from_int.ensures c.in-Ok.ensures.ok c.in_default.ensures.ok in
    is_authoritative _ _ _ _ _ _ 65535 _ _ _ _ _ _ (marked_answer _ _ _ _ _ _ _ begun c.set_header.ensures.header) (subst (λ h. SetsHigh 4 2 1 h c.set_aa.new.self) c.header-header.ensures c.set_aa.ensures) (ap (λ x. x.header) c.set_header.ensures.header) c.in_default-push.ensures.ok c.in_default-push-2.ensures.ok c.finish.ensures.message c.finish.ensures.octets

pub returns-clause-aa : goal.returns-clause-aa
returns-clause-aa g c = has_aa _ _ _ _ _ _ _ (returns-clause-ok g c)
