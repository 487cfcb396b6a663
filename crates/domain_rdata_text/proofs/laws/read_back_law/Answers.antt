use Rattle.domain_rdata_text.proofs.Returning.{all_back}
use Rattle.domain_rdata_text.proofs.laws.read_back_law.Goals as goal

pub returns : goal.returns
returns c = all_back
