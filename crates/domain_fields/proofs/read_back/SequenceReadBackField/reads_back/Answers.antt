use Rattle.domain_fields.specs.ReadBack.{both_read_back}
use Rattle.domain_fields.proofs.read_back.SequenceReadBackField.reads_back.Goals as goal

pub returns : goal.returns
returns g c =
    both_read_back (g.A.DataField.composed c.args.self.now.first) (g.B.DataField.composed c.args.self.now.rest) g.A.ReadBackField.seen_at g.B.ReadBackField.seen_at (g.A.ReadBackField.like c.args.self.now.first) (g.B.ReadBackField.like c.args.self.now.rest) c.reads_back.ensures c.reads_back-2.ensures
