use Rattle.std.proofs.Common.{◌≡◌, length}
use Rattle.std.specs.Cmp.Lexicographic.{slice_cmp}
use Rattle.std.specs.Ordering.{nat_cmp}
use Rattle.domain_any_rdata.specs.Readers.{remaining_octets}
use Rattle.domain_any_rdata.proofs.left.order_octets.Given as goal

abbrev pub invariant-octets : goal.invariant-octets
invariant-octets l =
    slice_cmp nat_cmp (remaining_octets l.first) (remaining_octets l.second)
    ≡ slice_cmp nat_cmp (remaining_octets l.initial.first) (remaining_octets l.initial.second)

abbrev pub decreases-octets : goal.decreases-octets
decreases-octets l = length (remaining_octets l.first)
