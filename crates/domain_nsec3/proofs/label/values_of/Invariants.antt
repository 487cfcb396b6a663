use Rattle.std.proofs.Common.{◌≡◌, ℕ, ◌<◌, length, slice_index}
use Rattle.domain_nsec3.specs.Labels.{IsDigitOf}
use Rattle.domain_nsec3.proofs.label.values_of.Given as goal

-- the first octets are digits of the first numbers
abbrev pub invariant-loop-i : goal.invariant-loop-i
invariant-loop-i l = record {
  long : length l.values ≡ 32;
  read : (k : ℕ) → k < l.i → IsDigitOf (slice_index l.label k) (slice_index l.values k);
}
