use Rattle.std.proofs.Common.{◌≡◌, length}
use Rattle.std.specs.List.{list_all}
use Rattle.domain_rdata_text.specs.Symbols.{is_digit}
use Rattle.domain_rdata_text.proofs.time.are_decimal.Given as goal

abbrev pub invariant-octet : goal.invariant-octet
invariant-octet l = list_all is_digit l.fn.octets ≡ list_all is_digit l.rest

abbrev pub decreases-octet : goal.decreases-octet
decreases-octet l = length l.rest
