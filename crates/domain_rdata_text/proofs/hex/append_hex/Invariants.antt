use Rattle.std.proofs.Common.{◌≡◌, ◌++◌, length}
use Rattle.domain_rdata_text.specs.Hex.{hex_text}
use Rattle.domain_rdata_text.proofs.hex.append_hex.Given as goal

abbrev pub invariant-octet : goal.invariant-octet
invariant-octet l = l.initial.text.items ++ hex_text l.fn.octets ≡ l.text.items ++ hex_text l.rest

abbrev pub decreases-octet : goal.decreases-octet
decreases-octet l = length l.rest
