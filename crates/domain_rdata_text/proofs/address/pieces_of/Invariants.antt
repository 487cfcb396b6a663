use Rattle.std.proofs.Common.{◌≡◌, [], length}
use Rattle.domain_rdata_text.specs.Addresses.{pieces_from}
use Rattle.domain_rdata_text.specs.Words.{lists}
use Rattle.domain_rdata_text.proofs.address.pieces_of.Given as goal

abbrev pub invariant-octet : goal.invariant-octet
invariant-octet l = pieces_from l.fn.separator [] [] l.fn.word ≡ pieces_from l.fn.separator (lists l.pieces.items) l.piece.items l.rest

abbrev pub decreases-octet : goal.decreases-octet
decreases-octet l = length l.rest
