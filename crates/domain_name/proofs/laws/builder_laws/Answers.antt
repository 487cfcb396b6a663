use Rattle.domain_name.proofs.OneOutcomes.{one_outcome}
use Rattle.domain_name.proofs.laws.builder_laws.Goals as goal

pub returns : goal.returns
returns c = one_outcome
