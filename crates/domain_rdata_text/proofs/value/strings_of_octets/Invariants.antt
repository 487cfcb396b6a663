use Rattle.std.proofs.Common.{◌≡◌, [], length}
use Rattle.domain_rdata_text.specs.declared.value.Open.TheVariants.{Between}
use Rattle.domain_rdata_text.specs.Values.{strings_in, IsOpen}
use Rattle.domain_rdata_text.specs.Words.{lists}
use Rattle.domain_rdata_text.proofs.value.strings_of_octets.Given as goal

abbrev pub invariant-octet : goal.invariant-octet
invariant-octet l = record {
  strings : strings_in [] [] Between l.fn.octets ≡ strings_in (lists l.strings.items) l.string.items l.found l.rest;
  left : IsOpen l.string.items l.found;
}

abbrev pub decreases-octet : goal.decreases-octet
decreases-octet l = length l.rest
