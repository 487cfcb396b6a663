use Rattle.domain_fields.specs.ReadBack.{all_read_back}
use Rattle.domain_data.specs.Views.{fields_of}
use Rattle.domain_data.proofs.read_back.FieldsDataReadBackData.reads_back.Goals as goal

pub returns : goal.returns
returns g c =
    all_read_back (g.F.DataField.composed (fields_of c.args.self.now)) g.F.ReadBackLast.seen_at (g.F.ReadBackLast.like (fields_of c.args.self.now)) c.reads_back_last.ensures
