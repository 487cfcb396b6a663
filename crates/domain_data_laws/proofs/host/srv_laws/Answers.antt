use Rattle.std.specs.Prelude.{refl}
use Rattle.domain_fields.specs.Names.{NameFieldAt}
use Rattle.domain_fields.specs.Sequences.{BothAt}
use Rattle.domain_data.specs.HostFields.{srv_port, srv_priority, srv_target, srv_weight}
use Rattle.domain_data.specs.Shapes.{NoNumbersName, Number16At, NumberNameAt, NumbersNameAt, numbers_name_data}
use Rattle.domain_data_laws.proofs.Fields.{last_whole_name, number16_before}
use Rattle.domain_data_laws.proofs.Reading.{fields_read_as}
use Rattle.domain_data_laws.proofs.host.srv_laws.Goals as goal

pub returns-clause-read : goal.returns-clause-read
returns-clause-read g c = λ it fits.
    let labels = g.N.NameLabels.labels in
    let absolute = g.met.N.Absolute.absolute in
    (refl, fields_read_as _ NumbersNameAt NoNumbersName _ _ numbers_name_data (number16_before _ (BothAt Number16At NumberNameAt) _ (srv_priority it) fits.0 (number16_before _ NumberNameAt _ (srv_weight it) fits.1 (number16_before _ NameFieldAt _ (srv_port it) fits.2 (last_whole_name (labels (srv_target it)) (absolute (srv_target it)))))))
