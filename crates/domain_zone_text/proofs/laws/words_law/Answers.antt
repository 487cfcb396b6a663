use Rattle.domain_zone_text.proofs.Splitting.{entry_splits}
use Rattle.domain_zone_text.proofs.laws.words_law.Goals as goal

pub returns : goal.returns
returns c = entry_splits
