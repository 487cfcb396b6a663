use Rattle.std.proofs.Common.{length, ap, arith}
use Rattle.domain_message.specs.EntryViews.{question_name}
use Rattle.domain_message.proofs.ComposingRecords.{name_appended, names_exceed, question_name_exceeds, question_exceeds, named_exceeds, after_name_exceeds}
use Rattle.domain_message.proofs.question.Question.compose.Goals as goal

pub returns-in-Err-clause-full : goal.returns-in-Err-clause-full
returns-in-Err-clause-full g c =
    let laws = g.met.Target.Composer in
    let absolute = g.met.N.Absolute.absolute (question_name c.args.self.now) in
    question_name_exceeds _ _ _ _ _ _ (names_exceed _ g.Target.Composer.compresses (g.Target.Octets.octets c.args.target.now) _ _ (λ s may. record { read = laws.reads_back _ _ s absolute may; flat = λ plain. laws.flat _ _ s plain may }) c.in-Err.ensures.full)

pub returns-in-Err-append_slice-clause-full : goal.returns-in-Err-append_slice-clause-full
returns-in-Err-append_slice-clause-full g c =
    let laws = g.met.Target.Composer in
    let absolute = g.met.N.Absolute.absolute (question_name c.args.self.now) in
    let named = name_appended _ g.Target.Composer.compresses (g.Target.Octets.octets c.args.target.now) _ _ (λ s may. record { read = laws.reads_back _ _ s absolute may; flat = λ plain. laws.flat _ _ s plain may }) c.in_default.ensures.ok in
    question_exceeds _ _ _ _ _ _ _ _ _ named (ap length c.type_and_class_octets-numbers.ensures) (omega (arith, c.in_default.ensures.capacity, c.in-Err-append_slice.ensures.capacity)) c.in-Err-append_slice.ensures.full

pub returns-in-Err-clause-tight : goal.returns-in-Err-clause-tight
returns-in-Err-clause-tight g c = named_exceeds _ _ _ _ c.in-Err.ensures.full

pub returns-in-Err-append_slice-clause-tight : goal.returns-in-Err-append_slice-clause-tight
returns-in-Err-append_slice-clause-tight g c =
    after_name_exceeds _ _ _ _ _ _ _ c.in_default.ensures.ok (ap length c.type_and_class_octets-numbers.ensures) (omega (arith, c.in_default.ensures.capacity, c.in-Err-append_slice.ensures.capacity)) c.in-Err-append_slice.ensures.full
