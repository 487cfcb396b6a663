use Rattle.std.proofs.Common.{◌≡◌, ◌*◌, length, map, take}
use Rattle.domain_field_text.specs.Base32.{base32hex_digit, base32hex_text}
use Rattle.domain_nsec3.proofs.label.hash_of_label.Given as goal

-- the first octets have the first digits
abbrev pub invariant-loop-i : goal.invariant-loop-i
invariant-loop-i l = record {
  long : length l.hash ≡ 20;
  read : base32hex_text (take (5 * l.i) l.hash) ≡ map base32hex_digit (take (8 * l.i) l.values);
}
