use Rattle.std.proofs.Common.{◌∙◌}
use Rattle.domain_svcb.proofs.params.SvcParams.iter.Goals as goal

pub returns : goal.returns
returns g c =
    let has = c.args.self.now.params in
    c.new.ensures (has.0, c.as_slice.ensures.octets ∙ has.1, has.2)
