use Rattle.std.proofs.Common.{◌≡◌, length}
use Rattle.domain_fields.specs.Orders.{hashed}
use Rattle.domain_any_rdata.specs.Readers.{remaining_octets}
use Rattle.domain_any_rdata.proofs.left.hash_left.Given as goal

abbrev pub invariant-octets : goal.invariant-octets
invariant-octets g l = hashed g.H.Hasher.write (remaining_octets l.left) l.state ≡ hashed g.H.Hasher.write (remaining_octets l.initial.left) l.initial.state

abbrev pub decreases-octets : goal.decreases-octets
decreases-octets g l = length (remaining_octets l.left)
