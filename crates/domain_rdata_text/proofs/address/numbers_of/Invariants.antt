use Rattle.std.proofs.Common.{◌≡◌, [], Some, length}
use Rattle.domain_rdata_text.specs.Addresses.{octets_from}
use Rattle.domain_rdata_text.specs.Words.{lists}
use Rattle.domain_rdata_text.proofs.address.numbers_of.Given as goal

abbrev pub invariant-piece : goal.invariant-piece
invariant-piece l = octets_from (Some []) (lists l.fn.pieces) ≡ octets_from (Some l.made.items) (lists l.rest)

abbrev pub decreases-piece : goal.decreases-piece
decreases-piece l = length l.rest
