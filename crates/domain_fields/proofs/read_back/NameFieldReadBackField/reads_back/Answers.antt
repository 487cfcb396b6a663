use Rattle.domain_fields.specs.ReadBack.{name_read_back}
use Rattle.domain_fields.proofs.read_back.NameFieldReadBackField.reads_back.Goals as goal

pub returns : goal.returns
returns g c = name_read_back (g.N.NameLabels.labels c.args.self.now.name)
