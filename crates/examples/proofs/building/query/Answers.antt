use Rattle.std.proofs.Common.{ap, arith}
use Rattle.examples.proofs.Built.{asks, is_query, not_begun, not_asked_of}
use Rattle.examples.proofs.building.query.Goals as goal

pub returns-in-Err-clause-none : goal.returns-in-Err-clause-none
returns-in-Err-clause-none g c none = not_begun _ _ _ _ 65535 _ (omega arith) c.in-Err.ensures.why

pub returns-in-Err-push_question-clause-none : goal.returns-in-Err-push_question-clause-none
returns-in-Err-push_question-clause-none g c none =
    not_asked_of _ _ _ _ _ _ 65535 _ _ _ c.in-Ok.ensures.ok c.set_header.ensures.header
    (omega (arith, c.in-Ok.ensures.capacity, ap g.Target.Octets.capacity c.set_header.ensures.target)) c.in-Err-push_question.ensures.why

pub returns-clause-ok : goal.returns-clause-ok
returns-clause-ok g c = is_query _ _ _ 65535 _ _ (asks _ _ _ _ _ _ _ c.in-Ok.ensures.ok c.set_header.ensures.header c.in_default.ensures.ok) c.finish.ensures.message
