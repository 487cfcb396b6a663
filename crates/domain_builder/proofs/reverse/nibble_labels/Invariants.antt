use Rattle.std.proofs.Common.{◌≡◌, ◌+◌, ◌*◌, ◌≤◌, drop, reverse, length}
use Rattle.std.specs.List.{flat_map}
use Rattle.domain_text.specs.BuilderState.{finished, size}
use Rattle.domain_builder.specs.Reverse.{nibbles}
use Rattle.domain_builder.proofs.reverse.nibble_labels.Given as goal

abbrev pub invariant-loop-left : goal.invariant-loop-left
invariant-loop-left l = record {
  built : l.labels.built ≡ finished (flat_map nibbles (reverse (drop l.left l.octets)));
  few : size l.labels.built + 4 * l.left ≤ 64;
  offset : l.left ≤ length l.octets;
}

abbrev pub decreases-loop-left : goal.decreases-loop-left
decreases-loop-left l = l.left
