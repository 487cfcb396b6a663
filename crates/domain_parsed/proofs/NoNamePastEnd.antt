-- At or past the end there is no name.
use Rattle.std.proofs.Common.{ℕ, ◌≤◌, List, [], length, refl, inl}
use Rattle.domain_wire.specs.Refusals.{short_input}
use Rattle.domain_reading.specs.Faults.{start}
use Rattle.domain_reading.specs.ParseResult.{HasNoName}
use Rattle.domain_reading.specs.declared.fault.NameFault.TheVariants.{ShortInput}

pub past_end : (n : ℕ) (m : List ℕ) (p : ℕ) → length m ≤ p → HasNoName n m p short_input
past_end n m p h = (ShortInput, refl, record { pointers = 0; passed = []; stopped = p; walk = start; at = inl h })
