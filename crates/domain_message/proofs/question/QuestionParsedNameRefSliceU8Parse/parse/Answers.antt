use Rattle.std.proofs.Common.{refl}
use Rattle.domain_message.proofs.Names.{short_after}
use Rattle.domain_message.proofs.question.QuestionParsedNameRefSliceU8Parse.parse.Goals as goal

pub returns-in-Err-clause-err : goal.returns-in-Err-clause-err
returns-in-Err-clause-err c = short_after 4 _ _ _ c.in_ok-qname.ensures.labels c.in_ok-qname.ensures.moves (c.in-Err.ensures.short.0 refl)
