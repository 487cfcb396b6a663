use Rattle.domain_zone_text.proofs.Owning.{entry_names}
use Rattle.domain_zone_text.proofs.laws.names_law.Goals as goal

pub returns : goal.returns
returns c = entry_names
