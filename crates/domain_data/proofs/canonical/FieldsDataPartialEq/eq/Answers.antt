use Rattle.std.proofs.Common.{◌∙◌, ap}
use Rattle.std.proofs.lemmas.Map.Text.{is_eq-slice_cmp}
use Rattle.std.specs.Ordering.{is_eq}
use Rattle.domain_data.specs.Views.{fields_key}
use Rattle.domain_data.proofs.canonical.FieldsDataPartialEq.eq.Goals as goal

pub returns : goal.returns
returns g c =
    let key = fields_key {t = g.row.TYPE} g.F.DataField.uncompressed in
    c.is_eq.ensures ∙ ap is_eq c.canonical_cmp.ensures ∙ is_eq-slice_cmp (key c.args.self.now) (key c.args.other.now)
