use Rattle.std.proofs.Common.{length}
use Rattle.domain_compress.specs.Ends.{AreMarked}
use Rattle.domain_compress.specs.Hashes.{IsKnown}
use Rattle.domain_compress.proofs.LongerSuffix.{Seen}
use Rattle.domain_compress.proofs.search.suffix_by_marks.Given as goal

abbrev pub invariant-offsets : goal.invariant-offsets
invariant-offsets l = record {
  seen : Seen l.octets l.name l.written l.rest l.best;
  marked : AreMarked l.marks l.name;
  known : IsKnown l.hashed l.octets l.rest;
}

abbrev pub decreases-offsets : goal.decreases-offsets
decreases-offsets l = length l.rest
