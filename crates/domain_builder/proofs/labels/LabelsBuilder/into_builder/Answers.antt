use Rattle.std.proofs.Common.{ap, sym}
use Rattle.domain_builder.specs.Inside.{Held}
use Rattle.domain_builder.proofs.Building.{room_held}
use Rattle.domain_builder.proofs.labels.LabelsBuilder.into_builder.Goals as goal

pub returns-clause-room : goal.returns-clause-room
returns-clause-room g c =
    room_held g.B.Octets.limit c.args.self c.end_label.new.self (g.B.Octets.capacity c.self.inside.builder) (ap (λ (v : Held). v.capacity) (sym c.self.view_is)) c.end_label.ensures.capacity (g.met.B.OctetsBuilder.fixed c.self.inside.builder)
