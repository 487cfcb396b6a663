use Rattle.dnswalk.proofs.step.StepDisplay.fmt.Goals as goal

pub returns-in-Pointer-clause-writes : goal.returns-in-Pointer-clause-writes
returns-in-Pointer-clause-writes g c plain ok = rw c.in-Pointer.is (c.write-in-Pointer.ensures.writes plain ok)

pub returns-in-CutShort-clause-writes : goal.returns-in-CutShort-clause-writes
returns-in-CutShort-clause-writes g c plain ok = rw c.in-CutShort.is (c.write-in-CutShort.ensures.writes plain ok)

pub returns-in-BadType-clause-writes : goal.returns-in-BadType-clause-writes
returns-in-BadType-clause-writes g c plain ok = rw c.in-BadType.is (c.write-in-BadType.ensures.writes plain ok)

pub returns-in-NotBackwards-clause-writes : goal.returns-in-NotBackwards-clause-writes
returns-in-NotBackwards-clause-writes g c plain ok = rw c.in-NotBackwards.is (c.write-in-NotBackwards.ensures.writes plain ok)

pub returns-in-OneTooMany-clause-writes : goal.returns-in-OneTooMany-clause-writes
returns-in-OneTooMany-clause-writes g c plain ok = rw c.in-OneTooMany.is (c.write-in-OneTooMany.ensures.writes plain ok)

pub returns-in-Label-clause-writes : goal.returns-in-Label-clause-writes
returns-in-Label-clause-writes g c plain ok = rw c.in-Label.is (c.write-in-Label.ensures.writes plain ok)

pub returns-in-LongName-clause-writes : goal.returns-in-LongName-clause-writes
returns-in-LongName-clause-writes g c plain ok = rw c.in-LongName.is (c.write-in-LongName.ensures.writes plain ok)
