use Rattle.std.proofs.Common.{◌≡◌, length}
use Rattle.std.specs.Char.{is_ascii_alphanumeric}
use Rattle.std.specs.List.{list_all}
use Rattle.domain_rdata_text.proofs.value.are_of_tag.Given as goal

abbrev pub invariant-octet : goal.invariant-octet
invariant-octet l = list_all is_ascii_alphanumeric l.fn.octets ≡ list_all is_ascii_alphanumeric l.rest

abbrev pub decreases-octet : goal.decreases-octet
decreases-octet l = length l.rest
