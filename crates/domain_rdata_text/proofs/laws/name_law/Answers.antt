use Rattle.domain_rdata_text.proofs.Naming.{name_is}
use Rattle.domain_rdata_text.proofs.laws.name_law.Goals as goal

pub returns : goal.returns
returns c = name_is
