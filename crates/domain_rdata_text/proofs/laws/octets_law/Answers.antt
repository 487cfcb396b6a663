use Rattle.domain_rdata_text.proofs.Standing.{are_plain}
use Rattle.domain_rdata_text.proofs.laws.octets_law.Goals as goal

pub returns : goal.returns
returns c = are_plain
