use Rattle.std.proofs.Common.{◌-◌, ◌≤◌, length}
use Rattle.domain_compress.specs.Compressing.{NoneRemembered}
use Rattle.domain_compress.specs.Written.{all_remembered}
use Rattle.domain_compress.proofs.Searching.{Passed}
use Rattle.domain_compress.proofs.search.suffix_by_hashes.Given as goal

abbrev pub invariant-ends : goal.invariant-ends
invariant-ends l = record {
  passed : Passed (NoneRemembered l.octets (all_remembered l.written)) l.name l.begin;
  few : l.suffixes ≤ 8;
}

abbrev pub decreases-ends : goal.decreases-ends
decreases-ends l = length l.name - l.begin
