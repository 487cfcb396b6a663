use Rattle.std.proofs.Common.{◌≡◌, ◌≤◌, length}
use Rattle.domain_svcb.specs.Lists.{keys_ascend}
use Rattle.domain_svcb.proofs.list.are_keys.Given as goal

abbrev pub invariant-loop-rest : goal.invariant-loop-rest
invariant-loop-rest l = record {
  same : keys_ascend 1 l.octets ≡ keys_ascend l.least l.rest;
  least : l.least ≤ 65536;
}

abbrev pub decreases-loop-rest : goal.decreases-loop-rest
decreases-loop-rest l = length l.rest
