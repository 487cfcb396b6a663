use Rattle.domain_fields.specs.ReadBack.{all_read_back}
use Rattle.domain_svcb.specs.ServiceViews.{service_fields}
use Rattle.domain_svcb.proofs.service.ServiceDataReadBackData.reads_back.Goals as goal

pub returns : goal.returns
returns g c =
    all_read_back (g.F.DataField.composed (service_fields c.args.self.now)) g.F.ReadBackLast.seen_at (g.F.ReadBackLast.like (service_fields c.args.self.now)) c.reads_back_last.ensures
