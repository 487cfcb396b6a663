use Rattle.std.proofs.Common.{◌≡◌, ◌++◌, replicate}
use Rattle.domain_rdata_text.proofs.ipv6.push_zeros.Given as goal

abbrev pub invariant-loop : goal.invariant-loop
invariant-loop l = l.made.items ≡ l.initial.made.items ++ replicate l.counter 0
