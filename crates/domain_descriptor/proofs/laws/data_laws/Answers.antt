use Rattle.domain_descriptor.proofs.Exact.{fields_once, fields_or_fault, data_or_fault}
use Rattle.domain_descriptor.proofs.laws.data_laws.Goals as goal

pub returns : goal.returns
returns c = record { once = fields_once; fields = fields_or_fault; not_both = data_or_fault }
