use Rattle.domain_label.proofs.split_error.LabelTypeErrorDisplay.fmt.Goals as goal

pub returns-in-Undefined-clause-writes : goal.returns-in-Undefined-clause-writes
returns-in-Undefined-clause-writes g c = λ plain ok. rw c.in-Undefined.is (c.write.ensures.writes plain ok)
