use Rattle.std.proofs.Common.{◌≡◌, ◌++◌, length}
use Rattle.domain_rdata_text.specs.Ipv6.{groups_of}
use Rattle.domain_rdata_text.proofs.ipv6.groups_of.Given as goal

abbrev pub invariant-group : goal.invariant-group
invariant-group l = groups_of l.fn.octets ≡ l.made.items ++ groups_of l.rest

abbrev pub decreases-group : goal.decreases-group
decreases-group l = length l.rest
