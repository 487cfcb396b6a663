use Rattle.domain_zone_signed.proofs.Convincing.{convincing}
use Rattle.domain_zone_signed.proofs.Covering.{fields, sound}
use Rattle.domain_zone_signed.proofs.laws.nsec_chain_laws.Goals as goal

pub returns : goal.returns
returns c = record { fields = fields; sound = sound; convincing = convincing }
