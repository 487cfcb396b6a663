use Rattle.std.proofs.Common.{rules, arith}
use Rattle.std.proofs.lemmas.Bool.{false≢true}
use Rattle.domain_message_builder.proofs.Ordering.{ordered_asked}
use Rattle.domain_message_builder.proofs.Pushing.{begun_after, grows, pushes_question}
use Rattle.domain_message_builder.proofs.builder.MessageBuilder.push_question.Goals as goal

pub invariant_of-self-2 : goal.invariant_of-self-2
invariant_of-self-2 g c = record {
  begun = begun_after _ _ c.in_default.ensures.ok.octets c.args.self.now.begun c.in_default.ensures.ok.all;
  within = omega (arith, c.in_default.ensures.within, c.args.self.now.within);
  ordered = ordered_asked c.args.self.now.starts _ _ _ _ c.at-self.ensures (search rules) (grows _ _ c.in_default.ensures.ok.octets c.in_default.ensures.ok.all) c.args.self.now.ordered;
}

pub returns-clause-ok : goal.returns-clause-ok
returns-clause-ok g c = pushes_question _ _ _ _ _ _ _ (search rules) (search rules) (λ h. false≢true (c.if-has_records.ensures.1 h)) c.with_question-counted.ensures c.at-self.ensures (search rules) (omega (arith, c.in_default.ensures.within, c.args.self.now.within)) c.in_default.ensures.ok
