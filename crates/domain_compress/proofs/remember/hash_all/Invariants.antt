use Rattle.std.proofs.Common.{◌≡◌, true}
use Rattle.std.specs.List.{AllWithin}
use Rattle.domain_compress.specs.Hashes.{IsHashed}
use Rattle.domain_compress.specs.Written.{all_remembered}
use Rattle.domain_compress.proofs.remember.hash_all.Given as goal

abbrev pub invariant-loop-label : goal.invariant-loop-label
invariant-loop-label l = record {
  same : all_remembered l.label-items ≡ all_remembered l.fn.written.items;
  known : l.stand ≡ true → AllWithin (IsHashed l.octets) l.label-items 0 l.label-index;
}
