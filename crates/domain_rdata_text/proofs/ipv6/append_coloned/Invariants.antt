use Rattle.std.proofs.Common.{◌≡◌, ◌++◌, length}
use Rattle.domain_rdata_text.specs.Ipv6.{coloned}
use Rattle.domain_rdata_text.proofs.ipv6.append_coloned.Given as goal

abbrev pub invariant-group : goal.invariant-group
invariant-group l = l.initial.text.items ++ coloned l.fn.groups ≡ l.text.items ++ coloned l.rest

abbrev pub decreases-group : goal.decreases-group
decreases-group l = length l.rest
