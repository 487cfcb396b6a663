use Rattle.std.proofs.Common.{◌≡◌, ◌+◌, ◌*◌, ◌≤◌, drop, map, reverse, length}
use Rattle.std.specs.Fmt.{decimal}
use Rattle.domain_text.specs.BuilderState.{finished, size}
use Rattle.domain_builder.proofs.reverse.decimal_labels.Given as goal

abbrev pub invariant-loop-left : goal.invariant-loop-left
invariant-loop-left l = record {
  built : l.labels.built ≡ finished (map decimal (reverse (drop l.left l.octets)));
  few : size l.labels.built + 4 * l.left ≤ 16;
  offset : l.left ≤ length l.octets;
}

abbrev pub decreases-loop-left : goal.decreases-loop-left
decreases-loop-left l = l.left
