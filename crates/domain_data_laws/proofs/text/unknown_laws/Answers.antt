use Rattle.std.specs.Prelude.{refl}
use Rattle.domain_rdata.specs.AnyData.{IsAllThatIsLeft, TooMuchIsLeft}
use Rattle.domain_rdata.specs.Unknown.{data_octets}
use Rattle.domain_rdata.specs.UnknownReading.{all_that_is_left}
use Rattle.domain_fields.specs.ReadBack.{left_read_back}
use Rattle.domain_data_laws.proofs.Reading.{read_as}
use Rattle.domain_data_laws.proofs.text.unknown_laws.Goals as goal

pub returns-clause-read : goal.returns-clause-read
returns-clause-read g c = λ it fits.
    (refl, read_as _ IsAllThatIsLeft TooMuchIsLeft _ _ all_that_is_left (left_read_back (data_octets {g = g.Octs.Octets} it) it.few))
