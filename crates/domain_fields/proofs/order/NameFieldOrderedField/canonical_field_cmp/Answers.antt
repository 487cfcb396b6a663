use Rattle.domain_fields.proofs.Ordering.{names_followed}
use Rattle.domain_fields.proofs.order.NameFieldOrderedField.canonical_field_cmp.Goals as goal

pub returns-clause-followed : goal.returns-clause-followed
returns-clause-followed g c =
    names_followed c.args.lowercase (g.N.NameLabels.labels c.args.self.now.name) (g.N.NameLabels.labels c.args.other.now.name) _ c.cased_cmp.ensures (g.met.N.Absolute.absolute c.args.self.now.name) (g.met.N.Absolute.absolute c.args.other.now.name)
