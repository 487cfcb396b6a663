use Rattle.std.proofs.Common.{◌≡◌, take, length}
use Rattle.domain_compress.specs.Planned.{remembered_in_table}
use Rattle.domain_compress.specs.Written.{all_remembered}
use Rattle.domain_compress.proofs.plan.written_at.Given as goal

abbrev pub invariant-loop-offset : goal.invariant-loop-offset
invariant-loop-offset l = record {
  listed : all_remembered l.written.items ≡ remembered_in_table (take l.offset-index l.table);
  size : length l.written.items ≡ l.offset-index;
}
