use Rattle.std.proofs.Common.{◌≡◌, ◌+◌, length}
use Rattle.domain_rdata_text.specs.Ipv6.{gap_from}
use Rattle.domain_rdata_text.proofs.ipv6.gap_of.Given as goal

abbrev pub invariant-octet : goal.invariant-octet
invariant-octet l = record { place : gap_from 0 l.fn.word ≡ gap_from l.at l.rest; within : l.at + length l.rest ≡ length l.fn.word }

abbrev pub decreases-octet : goal.decreases-octet
decreases-octet l = length l.rest
