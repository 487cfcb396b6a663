use Rattle.domain_zone_text.proofs.Lines.{reads_records}
use Rattle.domain_zone_text.proofs.laws.written_law.Goals as goal

pub returns : goal.returns
returns c = reads_records
