use Rattle.std.proofs.Common.{◌-◌, ◌≡◌, length}
use Rattle.domain_compress.specs.Ends.{IsMarked}
use Rattle.domain_compress.proofs.Searching.{Passed}
use Rattle.domain_compress.proofs.marks.mark_firsts.Given as goal

abbrev pub invariant-ends : goal.invariant-ends
invariant-ends l = record {
  passed : Passed (IsMarked l.marks) l.name l.begin;
  whole : length l.marks ≡ 256;
}

abbrev pub decreases-ends : goal.decreases-ends
decreases-ends l = length l.name - l.begin
