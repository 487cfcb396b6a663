use Rattle.std.proofs.Common.{◌≡◌, length}
use Rattle.domain_rdata_text.specs.Bitmaps.{has_type}
use Rattle.domain_rdata_text.proofs.bitmaps.has_type.Given as goal

abbrev pub invariant-rtype : goal.invariant-rtype
invariant-rtype l = has_type l.fn.rtype l.fn.types ≡ has_type l.fn.rtype l.rest

abbrev pub decreases-rtype : goal.decreases-rtype
decreases-rtype l = length l.rest
