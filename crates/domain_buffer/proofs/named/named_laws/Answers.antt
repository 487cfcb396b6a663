use Rattle.domain_buffer.proofs.Standing.{names_read_back}
use Rattle.domain_buffer.proofs.named.named_laws.Goals as goal

pub returns : goal.returns
returns c = names_read_back
