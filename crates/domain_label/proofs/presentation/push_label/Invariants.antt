use Rattle.std.proofs.Common.{◌≡◌, ◌≤◌, ◌+◌, ◌*◌, ◌++◌, length, take}
use Rattle.std.specs.Str.{IsAscii}
use Rattle.domain_label.specs.Text.{escaped}
use Rattle.domain_label.proofs.presentation.push_label.Given as goal

abbrev pub invariant-loop-octet : goal.invariant-loop-octet
invariant-loop-octet g l = record {
  spelled : l.text.items ≡ l.initial.text.items ++ escaped (take l.octet-index l.octets);
  ascii : IsAscii l.text.items;
  size : length l.text.items ≤ length l.initial.text.items + 4 * l.octet-index;
}
