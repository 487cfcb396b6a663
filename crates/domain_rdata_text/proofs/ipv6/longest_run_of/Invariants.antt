use Rattle.std.proofs.Common.{◌≡◌, length, cond, nat_lt}
use Rattle.domain_rdata_text.specs.Ipv6.{longest_run}
use Rattle.domain_rdata_text.proofs.ipv6.longest_run_of.Given as goal

abbrev pub invariant-group : goal.invariant-group
invariant-group l = longest_run l.fn.groups ≡ cond (nat_lt l.longest (longest_run l.rest)) (longest_run l.rest) l.longest

abbrev pub decreases-group : goal.decreases-group
decreases-group l = length l.rest
