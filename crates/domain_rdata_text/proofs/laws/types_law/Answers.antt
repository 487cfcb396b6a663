use Rattle.domain_rdata_text.proofs.Listing.{found}
use Rattle.domain_rdata_text.proofs.Members.{found_same, types_shown}
use Rattle.domain_rdata_text.proofs.laws.types_law.Goals as goal

pub returns : goal.returns
returns c ts = (found ts, types_shown ts, found_same ts)
