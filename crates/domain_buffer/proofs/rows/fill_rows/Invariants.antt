use Rattle.std.proofs.Common.{◌-◌, ◌≡◌, ◌≤◌, ◌*◌, length}
use Rattle.domain_buffer.specs.Rows.{HoldsRows}
use Rattle.domain_buffer.proofs.rows.fill_rows.Given as goal

abbrev pub invariant-entries : goal.invariant-entries
invariant-entries l = record {
  holds : HoldsRows l.limit l.message l.taken.count l.taken.offset l.taken.names l.initial.rows l.rows l.initial.names l.names;
  few : l.taken.count ≤ l.entries;
  short : l.taken.names ≤ 255 * l.taken.count;
  rows_left : 8 * l.taken.count ≤ length l.rows;
  names_left : l.taken.names ≤ length l.names;
  rows_kept : length l.rows ≡ length l.initial.rows;
  names_kept : length l.names ≡ length l.initial.names;
}

abbrev pub decreases-entries : goal.decreases-entries
decreases-entries l = l.entries - l.taken.count
