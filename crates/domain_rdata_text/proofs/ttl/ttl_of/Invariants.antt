use Rattle.std.proofs.Common.{◌≡◌, Some, length}
use Rattle.domain_rdata_text.specs.Ttls.{ttl, ttl_from, IsWithin}
use Rattle.domain_rdata_text.proofs.ttl.ttl_of.Given as goal

abbrev pub invariant-octet : goal.invariant-octet
invariant-octet l = record { value : ttl l.fn.word ≡ ttl_from (Some l.part) l.rest; within : IsWithin l.part }

abbrev pub decreases-octet : goal.decreases-octet
decreases-octet l = length l.rest
