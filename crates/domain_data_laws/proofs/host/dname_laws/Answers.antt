use Rattle.std.specs.Prelude.{refl}
use Rattle.domain_fields.specs.Names.{NameFieldAt, NoNameField}
use Rattle.domain_data.specs.Shapes.{name_data}
use Rattle.domain_data.specs.Views.{fields_of}
use Rattle.domain_data_laws.proofs.Fields.{last_whole_name}
use Rattle.domain_data_laws.proofs.Reading.{fields_read_as}
use Rattle.domain_data_laws.proofs.host.dname_laws.Goals as goal

pub returns-clause-read : goal.returns-clause-read
returns-clause-read g c = λ it fits.
    let labels = g.N.NameLabels.labels in
    let absolute = g.met.N.Absolute.absolute in
    (refl, fields_read_as _ NameFieldAt NoNameField _ _ name_data (last_whole_name (labels (fields_of it).name) (absolute (fields_of it).name)))
