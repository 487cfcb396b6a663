use Rattle.std.proofs.Common.{map}
use Rattle.domain_zone.proofs.Ascending.{IsAscendingUpTo, octets_of}
use Rattle.domain_zone.proofs.alone.is_ascending.Given as goal

-- those so far are in order
abbrev pub invariant-loop-i : goal.invariant-loop-i
invariant-loop-i l = IsAscendingUpTo (map octets_of l.set.rdata.items) l.i
