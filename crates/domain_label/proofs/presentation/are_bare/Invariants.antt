use Rattle.std.specs.Prelude.{IsTrue}
use Rattle.std.proofs.Common.{◌≡◌, take}
use Rattle.std.specs.Str.{IsAscii}
use Rattle.domain_label.specs.Text.{escaped}
use Rattle.domain_label.proofs.presentation.are_bare.Given as goal

abbrev pub invariant-loop-octet : goal.invariant-loop-octet
invariant-loop-octet l = record {
  spelled : IsTrue l.bare → escaped (take l.octet-index l.octets) ≡ take l.octet-index l.octets;
  ascii : IsTrue l.bare → IsAscii (take l.octet-index l.octets);
}
