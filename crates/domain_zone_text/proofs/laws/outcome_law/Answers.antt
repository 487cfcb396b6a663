use Rattle.domain_zone_text.proofs.Outcomes.{one_outcome}
use Rattle.domain_zone_text.proofs.laws.outcome_law.Goals as goal

pub returns : goal.returns
returns c = one_outcome
