use Rattle.std.proofs.Common.{◌≡◌, ◌*◌, ◌++◌}
use Rattle.domain_rdata_text.specs.Bitmaps.{bitmap}
use Rattle.domain_rdata_text.proofs.bitmaps.append_bitmap.Given as goal

abbrev pub invariant-loop-at : goal.invariant-loop-at
invariant-loop-at l = l.made.items ≡ l.initial.made.items ++ bitmap l.fn.types (l.fn.window * 256) l.at
