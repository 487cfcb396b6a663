use Rattle.std.proofs.Common.{◌≡◌, take, length}
use Rattle.domain_compress.specs.Planned.{offsets}
use Rattle.domain_compress.specs.Written.{all_remembered}
use Rattle.domain_compress.proofs.plan.offsets_of.Given as goal

abbrev pub invariant-loop-label : goal.invariant-loop-label
invariant-loop-label l = record {
  listed : l.table.items ≡ offsets (all_remembered (take l.label-index l.written));
  size : length l.table.items ≡ l.label-index;
}
