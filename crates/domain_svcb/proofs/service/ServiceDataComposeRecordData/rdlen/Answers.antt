use Rattle.domain_svcb.specs.ServiceViews.{service_type}
use Rattle.domain_svcb.proofs.CanonicalForms.{form_len}
use Rattle.domain_svcb.proofs.service.ServiceDataComposeRecordData.rdlen.Goals as goal

pub returns-clause-canonical : goal.returns-clause-canonical
returns-clause-canonical g c =
    form_len (service_type c.args.self.now) (g.F.DataField.uncompressed c.args.self.now.fields) (g.F.DataField.known_len c.args.self.now.fields) c.args.compress _ c.field_len.ensures (g.met.F.DataField.canonical_sized c.args.self.now.fields)
