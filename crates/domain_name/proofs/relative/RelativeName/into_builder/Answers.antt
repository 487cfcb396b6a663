use Rattle.std.proofs.Common.{ap, arith}
use Rattle.domain_name.specs.Builders.{held}
use Rattle.domain_name.specs.Names.{relative_holder}
use Rattle.domain_name.proofs.BuilderCapacity.{no_less_room}
use Rattle.domain_name.proofs.relative.RelativeName.into_builder.Goals as goal

pub returns-clause-room : goal.returns-clause-room
returns-clause-room g c =
    no_less_room g.Octs.Builder.Octets.limit (held c.from_wire.result) (g.Octs.Octets.capacity (relative_holder c.args.self)) _ (omega (arith, c.into_builder.ensures.capacity, ap g.Octs.Octets.capacity c.into_octets.ensures)) c.from_wire.ensures.capacity (g.met.Octs.Builder.OctetsBuilder.fixed c.into_builder.result)
