use Rattle.domain_data.specs.Views.{type_of}
use Rattle.domain_data.proofs.CanonicalForms.{form_len}
use Rattle.domain_data.proofs.fields.FieldsDataComposeRecordData.rdlen.Goals as goal

pub returns-clause-canonical : goal.returns-clause-canonical
returns-clause-canonical g c =
    form_len (type_of c.args.self.now) (g.F.DataField.uncompressed c.args.self.now.fields) (g.F.DataField.known_len c.args.self.now.fields) c.args.compress _ c.field_len.ensures (g.met.F.DataField.canonical_sized c.args.self.now.fields)
