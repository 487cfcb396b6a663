use Rattle.std.proofs.Common.{◌≡◌}
use Rattle.domain_dnssec.specs.TypeViews.{types_left, octets_left}
use Rattle.domain_dnssec.proofs.type_blocks.TypesIterIterator.next.Given as goal

abbrev pub invariant-loop-bit : goal.invariant-loop-bit
invariant-loop-bit l = types_left l.self ≡ types_left l.fn.self

abbrev pub decreases-loop-bit : goal.decreases-loop-bit
decreases-loop-bit l = octets_left l.self
