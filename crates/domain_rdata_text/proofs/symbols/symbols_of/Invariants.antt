use Rattle.std.proofs.Common.{◌≡◌, length}
use Rattle.domain_rdata_text.specs.Symbols.{symbols, symbols_from}
use Rattle.domain_rdata_text.proofs.symbols.symbols_of.Given as goal

abbrev pub invariant-octet : goal.invariant-octet
invariant-octet l = symbols l.fn.word ≡ symbols_from l.made.items l.part l.rest

abbrev pub decreases-octet : goal.decreases-octet
decreases-octet l = length l.rest
