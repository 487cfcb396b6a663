use Rattle.domain_rdata_text.proofs.Plainly.{plain_or_not}
use Rattle.domain_rdata_text.proofs.laws.plain_law.Goals as goal

pub returns : goal.returns
returns c = plain_or_not
