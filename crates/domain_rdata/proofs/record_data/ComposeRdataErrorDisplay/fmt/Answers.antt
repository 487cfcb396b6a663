use Rattle.domain_rdata.proofs.record_data.ComposeRdataErrorDisplay.fmt.Goals as goal

pub returns-in-Append-clause-writes : goal.returns-in-Append-clause-writes
returns-in-Append-clause-writes g c = λ plain ok. rw c.in-Append.is (c.write.ensures.writes plain ok)

pub returns-in-Long-clause-writes : goal.returns-in-Long-clause-writes
returns-in-Long-clause-writes g c = λ plain ok. rw c.in-Long.is (c.write-in-Long.ensures.writes plain ok)
