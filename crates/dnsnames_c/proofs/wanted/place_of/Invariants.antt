use Rattle.std.proofs.Common.{◌≡◌, ◌≤◌, take}
use Rattle.std.specs.List.{count_by}
use Rattle.dnsnames_c.specs.Wanted.{is_wanted}
use Rattle.dnsnames_c.proofs.wanted.place_of.Given as goal

abbrev pub invariant-loop-place : goal.invariant-loop-place
invariant-loop-place l = record {
  counted : l.passed ≡ count_by (is_wanted l.wanted) (take l.place l.kinds);
  few : l.passed ≤ l.index;
}
