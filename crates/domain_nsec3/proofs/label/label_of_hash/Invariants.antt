use Rattle.std.proofs.Common.{◌≡◌, ◌+◌, ◌*◌, ◌++◌, length, take}
use Rattle.domain_field_text.specs.Base32.{base32hex_text}
use Rattle.domain_nsec3.proofs.label.label_of_hash.Given as goal

-- the first digits are those of the first octets
abbrev pub invariant-group : goal.invariant-group
invariant-group l = record {
  written : take l.at l.label ++ base32hex_text l.rest ≡ base32hex_text l.fn.hash;
  sum : 5 * l.at + 8 * length l.rest ≡ 160;
  long : length l.label ≡ 32;
}

abbrev pub decreases-group : goal.decreases-group
decreases-group l = length l.rest
