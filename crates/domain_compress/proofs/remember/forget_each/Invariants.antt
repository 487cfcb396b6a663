use Rattle.std.proofs.Common.{◌≡◌, ◌≤◌, ◌+◌, ◌++◌, length, take}
use Rattle.domain_compress.specs.Compressing.{remembered_within}
use Rattle.domain_compress.specs.Hashes.{IsKnown}
use Rattle.domain_compress.specs.Written.{all_remembered}
use Rattle.domain_compress.proofs.remember.forget_each.Given as goal

abbrev pub invariant-offsets : goal.invariant-offsets
invariant-offsets l = record {
  all : remembered_within l.len (all_remembered l.fn.written.items) ≡ all_remembered l.kept.items ++ remembered_within l.len (all_remembered l.rest);
  known : IsKnown l.hashed l.octets l.fn.written.items → IsKnown l.holds (take l.len l.octets) l.kept.items;
  rest_known : IsKnown l.hashed l.octets l.fn.written.items → IsKnown l.hashed l.octets l.rest;
  few : length l.kept.items + length l.rest ≤ 128;
  fewer : length l.kept.items + length l.rest ≤ length l.fn.written.items;
}

abbrev pub decreases-offsets : goal.decreases-offsets
decreases-offsets l = length l.rest
