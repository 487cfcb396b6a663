use Rattle.std.proofs.Common.{map, length}
use Rattle.domain_name.specs.Names.{name_labels}
use Rattle.domain_zone_signed.proofs.Among.{SameAmong}
use Rattle.domain_zone_signed.proofs.names.is_among.Given as goal

abbrev pub invariant-loop-first : goal.invariant-loop-first
invariant-loop-first l = SameAmong (map name_labels l.names) (map name_labels l.rest) (name_labels l.name)

abbrev pub decreases-loop-first : goal.decreases-loop-first
decreases-loop-first l = length l.rest
