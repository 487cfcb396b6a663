use Rattle.std.proofs.Common.{arith}
use Rattle.domain_make.proofs.Entering.{three, question_no_name, question_no_class, question_no_type}
use Rattle.domain_make.proofs.Telling.{passed_on}
use Rattle.domain_make.proofs.entry.question_of.Goals as goal

pub returns-in_err-qname-clause-err : goal.returns-in_err-qname-clause-err
returns-in_err-qname-clause-err c = passed_on _ _ _ c.from_residual.ensures.1 (question_no_name _ _ _ _ _ (three c.args.words.now (omega arith)) c.in_err-qname.ensures.err)

pub returns-in_err-qclass-clause-err : goal.returns-in_err-qclass-clause-err
returns-in_err-qclass-clause-err c =
    passed_on _ _ _ c.from_residual-in_err-qclass.ensures.1 (question_no_class _ _ _ _ _ _ (three c.args.words.now (omega arith)) c.in_ok-qname.ensures.ok c.in_err-qclass.ensures.err)

pub returns-in_err-qtype-clause-err : goal.returns-in_err-qtype-clause-err
returns-in_err-qtype-clause-err c =
    passed_on _ _ _ c.from_residual-in_err-qtype.ensures.1
    (question_no_type _ _ _ _ _ _ _ (three c.args.words.now (omega arith)) c.in_ok-qname.ensures.ok c.in_ok-qclass.ensures.ok c.in_err-qtype.ensures.err)
