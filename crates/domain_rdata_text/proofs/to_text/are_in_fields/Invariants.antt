use Rattle.std.proofs.Common.{◌≡◌, length}
use Rattle.domain_rdata_text.specs.Texts.{in_fields}
use Rattle.domain_rdata_text.specs.Values.{vals_of}
use Rattle.domain_rdata_text.proofs.to_text.are_in_fields.Given as goal

abbrev pub invariant-value : goal.invariant-value
invariant-value l = in_fields (vals_of l.fn.values) ≡ in_fields (vals_of l.rest)

abbrev pub decreases-value : goal.decreases-value
decreases-value l = length l.rest
