use Rattle.domain_fields.specs.ReadBack.{both_last_read_back}
use Rattle.domain_fields.proofs.read_back.SequenceReadBackLast.reads_back_last.Goals as goal

pub returns : goal.returns
returns g c =
    both_last_read_back (g.A.DataField.composed c.args.self.now.first) (g.B.DataField.composed c.args.self.now.rest) g.A.ReadBackField.seen_at g.B.ReadBackLast.seen_at (g.A.ReadBackField.like c.args.self.now.first) (g.B.ReadBackLast.like c.args.self.now.rest) c.reads_back.ensures c.reads_back_last.ensures
