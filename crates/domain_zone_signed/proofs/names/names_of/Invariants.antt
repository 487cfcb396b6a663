use Rattle.std.proofs.Common.{◌≡◌, map, take}
use Rattle.domain_name.specs.Names.{name_labels}
use Rattle.domain_zone_signed.proofs.names.names_of.Given as goal

-- those so far
abbrev pub invariant-loop-name : goal.invariant-loop-name
invariant-loop-name l = map name_labels l.views.items ≡ map name_labels (take l.name-index l.names)
