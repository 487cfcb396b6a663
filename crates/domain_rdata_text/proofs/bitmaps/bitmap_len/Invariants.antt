use Rattle.std.proofs.Common.{◌≡◌, ◌≤◌, length}
use Rattle.domain_rdata_text.specs.Bitmaps.{bitmap_len}
use Rattle.domain_rdata_text.proofs.bitmaps.bitmap_len.Given as goal

abbrev pub invariant-rtype : goal.invariant-rtype
invariant-rtype l = record { value : bitmap_len 0 l.fn.window l.fn.types ≡ bitmap_len l.len l.fn.window l.rest; within : l.len ≤ 32 }

abbrev pub decreases-rtype : goal.decreases-rtype
decreases-rtype l = length l.rest
