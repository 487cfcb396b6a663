use Rattle.domain_fields.specs.Names.{NameFieldAt, NoNameField}
use Rattle.domain_data.specs.Shapes.{name_data}
use Rattle.domain_data.specs.Views.{fields_of}
use Rattle.domain_data_laws.proofs.Fields.{last_name}
use Rattle.domain_data_laws.proofs.Reading.{fields_read_as, same_number}
use Rattle.domain_data_laws.proofs.host.name_laws.Goals as goal

pub returns-clause-read : goal.returns-clause-read
returns-clause-read g c = λ it fits.
    let labels = g.N.NameLabels.labels in
    (same_number _, fields_read_as _ NameFieldAt NoNameField _ _ name_data (last_name (labels (fields_of it).name)))
