use Rattle.std.proofs.Common.{◌≡◌, ◌≤◌, length}
use Rattle.domain_rdata_text.specs.Bitmaps.{window_count}
use Rattle.domain_rdata_text.proofs.bitmaps.window_count.Given as goal

abbrev pub invariant-rtype : goal.invariant-rtype
invariant-rtype l = record { value : window_count 0 l.fn.types ≡ window_count l.count l.rest; within : l.count ≤ 256 }

abbrev pub decreases-rtype : goal.decreases-rtype
decreases-rtype l = length l.rest
