use Rattle.std.proofs.Common.{rules}
use Rattle.std.proofs.lemmas.Bool.{false≢true}
use Rattle.domain_make.proofs.Saying.{data_says, data_refused}
use Rattle.domain_make.proofs.data.data_of.Goals as goal

pub returns-in-Ok-clause-ok : goal.returns-in-Ok-clause-ok
returns-in-Ok-clause-ok c =
    data_says _ _ _ _ _ _ _ c.begin_of-begin.ensures.offset c.octets_from.ensures (λ is. false≢true (c.if-means_none.ensures.1 is)) c.in-Ok.ensures.ok c.in-Ok.ensures.plain

pub returns-in-Err-Refused-clause-err : goal.returns-in-Err-Refused-clause-err
returns-in-Err-Refused-clause-err c =
    data_refused _ _ _ _ _ _ _ c.in-Err-Refused.why c.begin_of-begin.ensures.offset c.octets_from.ensures (λ is. false≢true (c.if-means_none.ensures.1 is)) (c.in-Err-Refused.ensures.err c.in-Err-Refused.why (search rules)) c.column_of-column.ensures
