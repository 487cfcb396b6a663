use Rattle.std.proofs.Common.{◌≡◌, ◌≤◌, ◌+◌, ◌*◌, ◌++◌, length, take}
use Rattle.std.specs.List.{flat_map}
use Rattle.std.specs.Str.{IsAscii}
use Rattle.domain_field_text.specs.Names.{zone_octet}
use Rattle.domain_field_text.proofs.name.push_octets.Given as goal

abbrev pub invariant-loop-octet : goal.invariant-loop-octet
invariant-loop-octet l = record {
  text : l.text.items ≡ l.initial.text.items ++ flat_map zone_octet (take l.octet-index l.octets);
  ascii : IsAscii l.text.items;
  size : length l.text.items ≤ length l.initial.text.items + 4 * l.octet-index;
}
