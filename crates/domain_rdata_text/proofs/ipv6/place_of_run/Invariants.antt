use Rattle.std.proofs.Common.{◌≡◌, ◌+◌, ◌≤◌, length}
use Rattle.domain_rdata_text.specs.Ipv6.{before_run}
use Rattle.domain_rdata_text.proofs.ipv6.place_of_run.Given as goal

abbrev pub invariant-group : goal.invariant-group
invariant-group l = record { place : before_run l.run l.fn.groups ≡ l.at + before_run l.run l.rest; within : l.at + length l.rest ≤ length l.fn.groups }

abbrev pub decreases-group : goal.decreases-group
decreases-group l = length l.rest
