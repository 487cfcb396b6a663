use Rattle.std.proofs.Common.{◌≡◌, fold, length, take}
use Rattle.domain_compress.specs.Ends.{hash_step}
use Rattle.domain_compress.proofs.marks.hash.Given as goal

abbrev pub invariant-loop-octet : goal.invariant-loop-octet
invariant-loop-octet l = l.sum ≡ fold hash_step (length l.label) (take l.octet-index l.label)
