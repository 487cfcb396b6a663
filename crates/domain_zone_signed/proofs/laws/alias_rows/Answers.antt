use Rattle.domain_zone_signed.proofs.Evaluating.{alias_rows}
use Rattle.domain_zone_signed.proofs.laws.alias_rows.Goals as goal

pub returns : goal.returns
returns c = alias_rows
