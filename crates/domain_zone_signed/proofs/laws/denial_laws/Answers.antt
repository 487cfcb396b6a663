use Rattle.domain_zone_signed.proofs.Chaining.{closer}
use Rattle.domain_zone_signed.proofs.Existing.{has_one}
use Rattle.domain_zone_signed.proofs.Unique.{of_zone}
use Rattle.domain_zone_signed.proofs.laws.denial_laws.Goals as goal

pub returns : goal.returns
returns c = record { one = has_one; of_zone = of_zone; closer = λ z q n s w a i m h. closer z q n s a i m h }
