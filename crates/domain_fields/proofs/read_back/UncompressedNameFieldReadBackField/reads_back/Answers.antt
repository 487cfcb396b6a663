use Rattle.domain_fields.specs.ReadBack.{wire_read_back}
use Rattle.domain_fields.proofs.read_back.UncompressedNameFieldReadBackField.reads_back.Goals as goal

pub returns : goal.returns
returns g c = wire_read_back (g.N.NameLabels.labels c.args.self.now.name) (g.met.N.Absolute.absolute c.args.self.now.name)
