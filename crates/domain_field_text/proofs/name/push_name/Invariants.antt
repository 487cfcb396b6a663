use Rattle.std.proofs.Common.{◌≡◌, ◌≤◌, ◌+◌, ◌*◌, ◌++◌, length}
use Rattle.std.specs.List.{flat_map}
use Rattle.std.specs.Str.{IsAscii}
use Rattle.domain_label.specs.Wire.{wire}
use Rattle.domain_field_text.specs.Names.{zone_label}
use Rattle.domain_field_text.proofs.name.push_name.Given as goal

abbrev pub invariant-loop-label : goal.invariant-loop-label
invariant-loop-label g l = record {
  can : (goal.iterator-loop-label g).can_next l.labels;
  ends : (goal.iterator-loop-label g).is_finite l.labels;
  text : l.text.items ++ flat_map zone_label (g.I.LabelIterator.left l.labels) ≡ flat_map zone_label (g.I.LabelIterator.left l.fn.labels);
  room : length l.text.items + 4 * length (wire (g.I.LabelIterator.left l.labels)) ≤ 1020;
  ascii : IsAscii l.text.items;
}
