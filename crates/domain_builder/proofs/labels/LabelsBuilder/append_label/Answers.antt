use Rattle.std.proofs.Common.{arith}
use Rattle.domain_builder.proofs.labels.LabelsBuilder.append_label.Goals as goal

pub returns-then-slice-gt63-clause-answer : goal.returns-then-slice-gt63-clause-answer
returns-then-slice-gt63-clause-answer g c = omega arith
