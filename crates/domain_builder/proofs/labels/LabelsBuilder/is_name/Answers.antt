use Rattle.std.proofs.Common.{ap}
use Rattle.domain_builder.specs.Inside.{Held}
use Rattle.domain_builder.proofs.Building.{built_relative}
use Rattle.domain_builder.proofs.labels.LabelsBuilder.is_name.Goals as goal

pub returns : goal.returns
returns g c = built_relative (g.B.Octets.octets c.self.inside.builder) c.self.inside.head c.args.self.now.built (ap (λ (v : Held). v.built) c.self.view_is) c.self.invariant
