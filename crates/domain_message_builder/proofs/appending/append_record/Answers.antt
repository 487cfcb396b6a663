use Rattle.domain_message_builder.proofs.appending.append_record.Goals as goal

pub returns-in-Err-Append-clause-tight : goal.returns-in-Err-Append-clause-tight
returns-in-Err-Append-clause-tight g c compressing = rw (← c.in-Err-Append.field-0-is) c.in-Err-Append.ensures.tight

pub returns-in-Err-Long-clause-tight : goal.returns-in-Err-Long-clause-tight
returns-in-Err-Long-clause-tight g c compressing = rw (← c.in-Err-Long.field-0-is) c.in-Err-Long.ensures.tight
