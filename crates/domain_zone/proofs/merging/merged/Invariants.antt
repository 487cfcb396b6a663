use Rattle.std.proofs.Common.{◌≡◌, map, length}
use Rattle.domain_name.specs.Names.{name_labels}
use Rattle.domain_zone.specs.Entries.{entry_view}
use Rattle.domain_zone.specs.Faults.{IsCanonical}
use Rattle.domain_zone.specs.Records.{records_view}
use Rattle.domain_zone.proofs.Adding.{Building}
use Rattle.domain_zone.proofs.merging.merged.Given as goal

-- what isn't left is in the RRsets so far
abbrev pub invariant-loop-entry : goal.invariant-loop-entry
invariant-loop-entry l = record {
  apex : (records_view l.records).apex ≡ name_labels l.fn.apex;
  canonical : IsCanonical (records_view l.records);
  building : Building (map entry_view l.fn.entries.items) (map entry_view l.left.items) (records_view l.records).rrsets;
}

abbrev pub decreases-loop-entry : goal.decreases-loop-entry
decreases-loop-entry l = length l.left.items
