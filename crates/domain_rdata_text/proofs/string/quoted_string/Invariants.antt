use Rattle.std.proofs.Common.{◌≡◌, [], length}
use Rattle.domain_rdata_text.specs.Strings.{quoted_from}
use Rattle.domain_rdata_text.proofs.string.quoted_string.Given as goal

abbrev pub invariant-symbol : goal.invariant-symbol
invariant-symbol l = quoted_from [] l.fn.symbols ≡ quoted_from l.made.items l.rest

abbrev pub decreases-symbol : goal.decreases-symbol
decreases-symbol l = length l.rest
