use Rattle.std.specs.Prelude.{refl}
use Rattle.domain_wire.specs.Addresses.{ipv4_of}
use Rattle.domain_wire.specs.Values.{FixedAt, ShortAt}
use Rattle.domain_data.specs.Shapes.{ipv4_data}
use Rattle.domain_data.specs.Views.{fields_of}
use Rattle.domain_data_laws.proofs.Fields.{last_ipv4}
use Rattle.domain_data_laws.proofs.Reading.{fields_read_as}
use Rattle.domain_data_laws.proofs.address.a_laws.Goals as goal

pub returns-clause-read : goal.returns-clause-read
returns-clause-read c = λ it fits.
    (refl, fields_read_as _ (FixedAt 4 ipv4_of) (ShortAt 4) _ _ ipv4_data (last_ipv4 (fields_of it)))
