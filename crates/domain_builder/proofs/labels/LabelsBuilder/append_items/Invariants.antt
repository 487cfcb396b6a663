use Rattle.std.proofs.Common.{List, ◌≤◌}
use Rattle.std.specs.Iterator.{AlwaysYields}
use Rattle.domain_text.proofs.Reading.{Item, IsRead}
use Rattle.domain_builder.proofs.labels.LabelsBuilder.append_items.Given as goal

abbrev pub invariant-loop-item : goal.invariant-loop-item
invariant-loop-item g l =
    record {
      takes : (all : List Item) → AlwaysYields g.I.Iterator.next_gives (λ x. x) l.fn.items all → (rest : List Item) × AlwaysYields g.I.Iterator.next_gives (λ x. x) l.item-iterator rest × IsRead all rest l.fn.self.built l.self.built;
      capacity : l.fn.self.capacity ≤ l.self.capacity;
    }
