use Rattle.domain_fields.specs.Names.{NameFieldAt}
use Rattle.domain_fields.specs.Sequences.{BothAt}
use Rattle.domain_svcb.specs.ParamsReading.{ParamsAt, params_read_back}
use Rattle.domain_svcb.specs.ParamsViews.{params_held}
use Rattle.domain_svcb.specs.ServiceViews.{service_fields}
use Rattle.domain_svcb.specs.Services.{NoService, ServiceAt, service_data}
use Rattle.domain_data_laws.proofs.Fields.{number16_before, whole_name_before}
use Rattle.domain_data_laws.proofs.Reading.{fields_read_as, same_number}
use Rattle.domain_data_laws.proofs.service.service_laws.Goals as goal

pub returns-clause-read : goal.returns-clause-read
returns-clause-read g c = λ it fits.
    let labels = g.N.NameLabels.labels in
    let absolute = g.met.N.Absolute.absolute in
    let fields = service_fields it in
    let params = params_read_back (params_held {g = g.Octs.Octets} fields.rest.rest) fields.rest.rest.params fields.rest.rest.few in
    let rest = whole_name_before _ ParamsAt _ (labels fields.rest.first.name) (absolute fields.rest.first.name) params in
    (same_number _, fields_read_as _ ServiceAt NoService _ _ service_data (number16_before _ (BothAt NameFieldAt ParamsAt) _ fields.first fits rest))
