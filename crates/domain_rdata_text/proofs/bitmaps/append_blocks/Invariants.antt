use Rattle.std.proofs.Common.{◌≡◌, ◌++◌}
use Rattle.domain_rdata_text.specs.Bitmaps.{blocks}
use Rattle.domain_rdata_text.proofs.bitmaps.append_blocks.Given as goal

abbrev pub invariant-loop-window : goal.invariant-loop-window
invariant-loop-window l = l.made.items ≡ l.initial.made.items ++ blocks l.fn.types l.window
