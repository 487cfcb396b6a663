use Rattle.std.proofs.Common.{◌-◌, ◌≤◌, map, length}
use Rattle.std.specs.Prelude.{option_map}
use Rattle.domain_name.specs.Names.{name_labels}
use Rattle.domain_zone.specs.Kept.{zone_view}
use Rattle.domain_zone.specs.Outcomes.{outcome_of}
use Rattle.domain_zone_signed.proofs.Leading.{Leads}
use Rattle.domain_zone_signed.proofs.names.follow.Given as goal

-- the chain was followed to where it leads next
abbrev pub invariant-aliases : goal.invariant-aliases
invariant-aliases l = record {
  few : length l.names.items ≤ 16;
  leads : Leads (zone_view l.zone) (name_labels l.name) l.rtype (outcome_of l.first) (map name_labels l.names.items) (option_map name_labels l.next);
}

abbrev pub decreases-aliases : goal.decreases-aliases
decreases-aliases l = 16 - length l.names.items
