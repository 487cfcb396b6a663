use Rattle.std.proofs.Common.{◌≡◌, ◌+◌, ◌≤◌, length}
use Rattle.domain_rdata_text.specs.Ipv6.{zeros}
use Rattle.domain_rdata_text.proofs.ipv6.zeros_of.Given as goal

abbrev pub invariant-group : goal.invariant-group
invariant-group l = record { count : zeros l.fn.groups ≡ l.count + zeros l.rest; within : l.count + length l.rest ≤ length l.fn.groups }

abbrev pub decreases-group : goal.decreases-group
decreases-group l = length l.rest
