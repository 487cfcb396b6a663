use Rattle.domain_message_builder.proofs.record_builder.RecordBuilder.push.Goals as goal

pub returns-clause-tight : goal.returns-clause-tight
returns-clause-tight g c = λ compresses. rw c.without_order.ensures (c.in-Err.ensures.tight compresses)
