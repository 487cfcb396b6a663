use Rattle.std.proofs.Common.{◌≡◌, ◌++◌, length}
use Rattle.domain_rdata_text.specs.Bitmaps.{of_window}
use Rattle.domain_rdata_text.proofs.bitmaps.types_of_window.Given as goal

abbrev pub invariant-rtype : goal.invariant-rtype
invariant-rtype l = of_window l.fn.window l.fn.types ≡ l.found.items ++ of_window l.fn.window l.rest

abbrev pub decreases-rtype : goal.decreases-rtype
decreases-rtype l = length l.rest
