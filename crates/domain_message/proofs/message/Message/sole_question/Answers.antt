use Rattle.std.proofs.Common.{arith}
use Rattle.domain_message.specs.Sole.NoSoleQuestion.{missing}
use Rattle.domain_message.proofs.message.Message.sole_question.Goals as goal

pub returns-in-Err-clause-err : goal.returns-in-Err-clause-err
returns-in-Err-clause-err g c = missing (omega (arith, c.if-count-eq0.false, c.if-count-gt1.false, c.qdcount-count.ensures, c.header_counts.ensures.questions)) c.in-Err.ensures.err
