use Rattle.std.proofs.Common.{◌≡◌, [], length}
use Rattle.domain_rdata_text.specs.Words.{lists}
use Rattle.domain_rdata_text.specs.Names.{parts_from}
use Rattle.domain_rdata_text.proofs.name.parts_of.Given as goal

abbrev pub invariant-symbol : goal.invariant-symbol
invariant-symbol l = parts_from [] [] l.fn.symbols ≡ parts_from (lists l.labels.items) l.label.items l.rest

abbrev pub decreases-symbol : goal.decreases-symbol
decreases-symbol l = length l.rest
