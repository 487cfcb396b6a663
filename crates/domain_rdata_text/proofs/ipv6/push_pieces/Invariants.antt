use Rattle.std.proofs.Common.{◌≡◌, Some, length}
use Rattle.domain_rdata_text.specs.Ipv6.{pieces_octets}
use Rattle.domain_rdata_text.specs.Words.{lists}
use Rattle.domain_rdata_text.proofs.ipv6.push_pieces.Given as goal

abbrev pub invariant-piece : goal.invariant-piece
invariant-piece l = pieces_octets l.fn.end (Some l.initial.made.items) (lists l.fn.pieces) ≡ pieces_octets l.fn.end (Some l.made.items) (lists l.rest)

abbrev pub decreases-piece : goal.decreases-piece
decreases-piece l = length l.rest
