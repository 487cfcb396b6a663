use Rattle.domain_zone_write.proofs.Loaded.{readable_zone}
use Rattle.domain_zone_write.proofs.laws.loaded_zone_law.Goals as goal

pub returns : goal.returns
returns c = readable_zone
