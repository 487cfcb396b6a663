use Rattle.std.proofs.Common.{arith}
use Rattle.examples.proofs.Replies.{begun_answer, is_referral, cannot_begin, cannot_repeat, lacks_server, lacks_glue}
use Rattle.examples.specs.Served.LacksRecord.{not_begun}
use Rattle.examples.proofs.serving.referral.Goals as goal

pub returns-in-Err-clause-none : goal.returns-in-Err-clause-none
returns-in-Err-clause-none g c none = not_begun (cannot_begin _ _ _ _ 65535 _ (omega arith) c.in-Err.ensures.why)

pub returns-in-Err-start_answer-clause-none : goal.returns-in-Err-start_answer-clause-none
returns-in-Err-start_answer-clause-none g c none =
    not_begun (cannot_repeat _ _ _ _ _ 65535 _ _ c.in-Ok.ensures.ok c.in-Ok.ensures.capacity c.in-Err-start_answer.ensures.why)

pub returns-in-Err-push-clause-none : goal.returns-in-Err-push-clause-none
returns-in-Err-push-clause-none g c none =
    lacks_server _ _ _ _ _ _ _ _ _ 65535 _ _ (begun_answer _ _ 0 _ 65535 _ _ c.masked_from_int.ensures c.in-Ok.ensures.ok c.in_default.ensures.ok)
    (omega (arith, c.in-Ok.ensures.capacity, c.start_answer.ensures.capacity)) c.in-Err-push.ensures.why

pub returns-in-Err-push-2-clause-none : goal.returns-in-Err-push-2-clause-none
returns-in-Err-push-2-clause-none g c none =
    lacks_glue _ _ _ _ _ _ _ _ _ 65535 _ _ _ (begun_answer _ _ 0 _ 65535 _ _ c.masked_from_int.ensures c.in-Ok.ensures.ok c.in_default.ensures.ok) c.in_default-push.ensures.ok
    (omega (arith, c.in-Ok.ensures.capacity, c.start_answer.ensures.capacity, c.push.ensures.capacity)) c.in-Err-push-2.ensures.why

pub returns-clause-ok : goal.returns-clause-ok
returns-clause-ok g c =
    is_referral _ _ _ _ _ _ 65535 _ _ _ _ (begun_answer _ _ 0 _ 65535 _ _ c.masked_from_int.ensures c.in-Ok.ensures.ok c.in_default.ensures.ok) c.in_default-push.ensures.ok c.in_default-push-2.ensures.ok c.finish.ensures.message c.finish.ensures.octets
