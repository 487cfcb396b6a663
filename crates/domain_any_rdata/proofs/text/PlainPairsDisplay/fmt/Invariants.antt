use Rattle.std.proofs.Common.{false, length}
use Rattle.std.specs.Fmt.{IsPlainFormatter}
use Rattle.std.specs.List.{flat_map}
use Rattle.domain_list.specs.Moving.{HasMoved}
use Rattle.domain_fields.specs.Parts.{parts_octets}
use Rattle.domain_rdata.specs.AnyData.{spaced_octet}
use Rattle.domain_any_rdata.specs.Parts.{rdata_parts}
use Rattle.domain_any_rdata.specs.Readers.{remaining_octets}
use Rattle.domain_any_rdata.proofs.text.PlainPairsDisplay.fmt.Given as goal

abbrev pub invariant-octets : goal.invariant-octets
invariant-octets g l =
    IsPlainFormatter l.fn.f
    → HasMoved g.W.Write.write_str_gives l.fn.f (flat_map spaced_octet (parts_octets false (rdata_parts l.fn.self.rdata))) (flat_map spaced_octet (remaining_octets l.left)) l.f

abbrev pub decreases-octets : goal.decreases-octets
decreases-octets g l = length (remaining_octets l.left)
