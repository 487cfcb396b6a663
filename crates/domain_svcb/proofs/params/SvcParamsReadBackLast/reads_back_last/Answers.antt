use Rattle.domain_svcb.specs.ParamsReading.{params_read_back}
use Rattle.domain_svcb.proofs.params.SvcParamsReadBackLast.reads_back_last.Goals as goal

pub returns : goal.returns
returns g c =
    let it = c.args.self.now in
    params_read_back (g.Octs.Octets.octets it.octets) it.params it.few
