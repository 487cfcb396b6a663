use Rattle.domain_fields.specs.Names.{NameFieldAt}
use Rattle.domain_data.specs.Shapes.{NoNumberName, NumberNameAt, number_name_data}
use Rattle.domain_data.specs.Views.{fields_of}
use Rattle.domain_data_laws.proofs.Fields.{last_whole_name, number16_before}
use Rattle.domain_data_laws.proofs.Reading.{fields_read_as, same_number}
use Rattle.domain_data_laws.proofs.later.host_laws.Goals as goal

pub returns-clause-read : goal.returns-clause-read
returns-clause-read g c = λ it fits.
    let labels = g.N.NameLabels.labels in
    let absolute = g.met.N.Absolute.absolute in
    (same_number _, fields_read_as _ NumberNameAt NoNumberName _ _ number_name_data (number16_before _ NameFieldAt _ (fields_of it).first fits (last_whole_name (labels (fields_of it).rest.name) (absolute (fields_of it).rest.name))))
