use Rattle.domain_flat.proofs.NotBoth.{absolute_not_both, relative_not_both, start_not_both, one_name}
use Rattle.domain_flat.proofs.OneFault.{one_absolute_fault, one_relative_fault, one_start_fault}
use Rattle.domain_flat.proofs.laws.fault_laws.Goals as goal

pub returns : goal.returns
returns c = record { absolute = one_absolute_fault; relative = one_relative_fault; start = one_start_fault; not_absolute = absolute_not_both; not_relative = relative_not_both; not_at_start = start_not_both; one_name = one_name }
