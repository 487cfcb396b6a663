use Rattle.domain_zone_write.proofs.Loaded.{loaded_again}
use Rattle.domain_zone_write.proofs.laws.reloaded_zone_law.Goals as goal

pub returns : goal.returns
returns c = loaded_again
