use Rattle.std.proofs.Common.{◌≡◌, ◌≤◌, ◌+◌, ◌*◌, ◌++◌, length, take}
use Rattle.std.specs.List.{flat_map}
use Rattle.std.specs.Str.{IsAscii}
use Rattle.domain_strings.specs.Quoted.{quoted_octet}
use Rattle.domain_strings.proofs.quoted.push_octets.Given as goal

abbrev pub invariant-loop-octet : goal.invariant-loop-octet
invariant-loop-octet l = record {
  spelled : l.text.items ≡ l.initial.text.items ++ flat_map quoted_octet (take l.octet-index l.octets);
  ascii : IsAscii l.text.items;
  size : length l.text.items ≤ length l.initial.text.items + 4 * l.octet-index;
}
