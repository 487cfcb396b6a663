use Rattle.std.proofs.Common.{◌≡◌, ◌++◌, length}
use Rattle.std.specs.List.{flat_map}
use Rattle.domain_rdata_text.specs.Strings.{quoted_octet}
use Rattle.domain_rdata_text.proofs.string.append_string.Given as goal

abbrev pub invariant-octet : goal.invariant-octet
invariant-octet l = l.initial.text.items ++ flat_map quoted_octet l.fn.string ≡ l.text.items ++ flat_map quoted_octet l.rest

abbrev pub decreases-octet : goal.decreases-octet
decreases-octet l = length l.rest
