use Rattle.domain_label.proofs.SplitLaws.{one_label, split_once, label_or_fault}
use Rattle.domain_label.proofs.laws.split_laws.Goals as goal

pub returns : goal.returns
returns c = record { one_label = one_label; one_fault = split_once; not_both = label_or_fault }
