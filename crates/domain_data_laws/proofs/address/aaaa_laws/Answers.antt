use Rattle.std.specs.Prelude.{refl}
use Rattle.domain_wire.specs.Addresses.{ipv6_of}
use Rattle.domain_wire.specs.Values.{FixedAt, ShortAt}
use Rattle.domain_data.specs.Shapes.{ipv6_data}
use Rattle.domain_data.specs.Views.{fields_of}
use Rattle.domain_data_laws.proofs.Fields.{last_ipv6}
use Rattle.domain_data_laws.proofs.Reading.{fields_read_as}
use Rattle.domain_data_laws.proofs.address.aaaa_laws.Goals as goal

pub returns-clause-read : goal.returns-clause-read
returns-clause-read c = λ it fits.
    (refl, fields_read_as _ (FixedAt 16 ipv6_of) (ShortAt 16) _ _ ipv6_data (last_ipv6 (fields_of it)))
