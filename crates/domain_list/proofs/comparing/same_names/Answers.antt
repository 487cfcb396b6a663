use Rattle.std.proofs.Common.{rules}
use Rattle.domain_list.proofs.Sameness.{same_told}
use Rattle.domain_list.proofs.comparing.same_names.Goals as goal

pub returns : goal.returns
returns g c = same_told c.eq_names.result (g.A.NameLabels.labels c.args.a.now) (g.B.NameLabels.labels c.args.b.now) (search rules)
