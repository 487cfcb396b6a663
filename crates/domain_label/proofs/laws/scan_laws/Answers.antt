use Rattle.domain_label.proofs.LabelReading.{one_label}
use Rattle.domain_label.proofs.ReadOnce.{read_once}
use Rattle.domain_label.proofs.laws.scan_laws.Goals as goal

pub returns-clause-symbols : goal.returns-clause-symbols
returns-clause-symbols c = read_once

pub returns-clause-labels : goal.returns-clause-labels
returns-clause-labels c = one_label
