use Rattle.domain_zone_text.proofs.Outcomes.{one_entry}
use Rattle.domain_zone_text.proofs.laws.entry_law.Goals as goal

pub returns : goal.returns
returns c = one_entry
