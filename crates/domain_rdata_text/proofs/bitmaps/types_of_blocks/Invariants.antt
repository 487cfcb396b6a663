use Rattle.std.proofs.Common.{◌≡◌, [], length}
use Rattle.domain_rdata_text.specs.declared.bitmaps.Block.TheVariants.{Ended}
use Rattle.domain_rdata_text.specs.Bitmaps.{types_in, IsBlock}
use Rattle.domain_rdata_text.proofs.bitmaps.types_of_blocks.Given as goal

abbrev pub invariant-octet : goal.invariant-octet
invariant-octet l = record {
  types : types_in [] Ended l.fn.octets ≡ types_in l.types.items l.found l.rest;
  found : IsBlock l.found;
}

abbrev pub decreases-octet : goal.decreases-octet
decreases-octet l = length l.rest
