use Rattle.std.proofs.Common.{◌<◌, ◌≤◌, length}
use Rattle.std.specs.List.{AllWithin}
use Rattle.domain_buffer.proofs.plan.is_table.Given as goal

abbrev pub invariant-loop-offset : goal.invariant-loop-offset
invariant-loop-offset l = record {
  few : length l.table ≤ 128;
  low : AllWithin (λ p. p < 16384) l.table 0 l.offset-index;
}
