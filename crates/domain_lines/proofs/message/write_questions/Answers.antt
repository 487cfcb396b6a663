use Rattle.std.proofs.Common.{refl, arith}
use Rattle.domain_message.specs.Entries.{QuestionAt, NoQuestion}
use Rattle.domain_message.specs.Models.{question_fields}
use Rattle.domain_lines.specs.Messages.{IsQuestionText}
use Rattle.domain_lines.proofs.Showing.{written_none, written_more, written_all, written_missing}
use Rattle.domain_lines.proofs.message.write_questions.Goals as goal

pub loop-question-init : goal.loop-question-init
loop-question-init g c = written_none g.W.Sink.takes g.met.W.Sink.nothing g.met.W.Sink.joined QuestionAt IsQuestionText _ _

pub loop-question-preserved : goal.loop-question-preserved
loop-question-preserved g c =
    written_more g.W.Sink.takes g.met.W.Sink.nothing g.met.W.Sink.joined QuestionAt IsQuestionText _ _ _ c.loop-question._question _ _ _ (question_fields c.in-Ok.question) _ c.loop-question.invariant c.in-Ok.ensures.ok c.in-Ok.ensures.moves refl c.in_ok-put_line.ensures.taken

pub returns-in-Err-clause-refused : goal.returns-in-Err-clause-refused
returns-in-Err-clause-refused g c =
    written_missing g.W.Sink.takes g.met.W.Sink.nothing g.met.W.Sink.joined QuestionAt NoQuestion IsQuestionText _ _ c.args.count c.loop-question._question _ _ c.in-Err.e c.loop-question.invariant c.loop-question-test.true c.in-Err.ensures.err

pub returns-clause-written : goal.returns-clause-written
returns-clause-written g c = written_all g.W.Sink.takes g.met.W.Sink.nothing g.met.W.Sink.joined QuestionAt IsQuestionText _ _ c.args.count c.loop-question._question _ _ c.loop-question.invariant (omega arith)

pub returns-clause-moves : goal.returns-clause-moves
returns-clause-moves g c = c.loop-question.invariant.moves
