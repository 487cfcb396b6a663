use Rattle.std.proofs.Common.{◌≡◌, ◌≤◌, false, take}
use Rattle.domain_compress.specs.Compressing.{remembered_within}
use Rattle.domain_compress.specs.Written.{all_remembered}
use Rattle.domain_compress.proofs.remember.first_left.Given as goal

abbrev pub invariant-loop-label : goal.invariant-loop-label
invariant-loop-label l = record {
  left_so : remembered_within l.len (all_remembered (take l.label-index l.written)) ≡ all_remembered (take l.left l.written);
  few : l.left ≤ l.label-index;
  whole : l.is_cut ≡ false → l.left ≡ l.label-index;
}
