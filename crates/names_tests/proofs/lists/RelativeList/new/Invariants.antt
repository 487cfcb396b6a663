use Rattle.std.proofs.Common.{◌≡◌, ◌≤◌, length, map, take}
use Rattle.domain_label.specs.Labels.{label_octets}
use Rattle.domain_label.specs.Wire.{wire, IsRelative}
use Rattle.names_tests.proofs.lists.RelativeList.new.Given as goal

abbrev pub invariant-loop-label : goal.invariant-loop-label
invariant-loop-label l = record {
  relative : IsRelative (map label_octets (take l.label-index l.labels));
  sized : l.size ≡ length (wire (map label_octets (take l.label-index l.labels)));
  few : l.size ≤ 254;
}
