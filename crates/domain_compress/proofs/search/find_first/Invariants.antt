use Rattle.std.proofs.Common.{◌<◌, length}
use Rattle.std.specs.List.{All}
use Rattle.domain_label.specs.Wire.{labels_in}
use Rattle.domain_compress.specs.Hashes.{IsHashed}
use Rattle.domain_compress.proofs.FirstFinds.{Nowhere}
use Rattle.domain_compress.proofs.search.find_first.Given as goal

abbrev pub invariant-offsets : goal.invariant-offsets
invariant-offsets l = record {
  nowhere : Nowhere l.octets (labels_in l.name) l.written l.rest;
  hashed : All (IsHashed l.octets) l.rest;
  few : l.misses < 4;
}

abbrev pub decreases-offsets : goal.decreases-offsets
decreases-offsets l = length l.rest
