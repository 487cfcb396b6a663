use Rattle.std.proofs.Common.{ℕ, ◌≤◌, List, true, length}
use Rattle.std.specs.Iterator.{AlwaysYields}
use Rattle.domain_label.specs.LabelText.{BeginsWithOctets}
use Rattle.domain_label.proofs.owned.OwnedLabel.from_chars.Given as goal

abbrev pub invariant-loop-c : goal.invariant-loop-c
invariant-loop-c g l = record {
  can : (goal.iterator-loop-c g).can_next l.chars;
  ends : (goal.iterator-loop-c g).is_finite l.chars;
  few : length l.octets.items ≤ 63;
  read : (cs : List ℕ) → AlwaysYields g.I.Iterator.next_gives (λ c. c) l.fn.chars cs → (rest : List ℕ) × AlwaysYields g.I.Iterator.next_gives (λ c. c) l.chars rest × BeginsWithOctets true cs l.octets.items rest;
}
