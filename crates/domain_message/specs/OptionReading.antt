-- Taking the rest of the octets is a reading, which never fails.
use Rattle.std.specs.Prelude.{ℕ, List}
use Rattle.std.proofs.Common.{arith, sym, ◌∙◌}
use Rattle.domain_wire.specs.declared.error.ParseError.{ParseError}
use Rattle.domain_wire.specs.Values.{IsReading}
use Rattle.domain_message.specs.Options.{AreAllThatIsLeft}

pub options_reading : IsReading AreAllThatIsLeft (λ (m : List ℕ) (p : ℕ) (why : ParseError). ⊥)
options_reading = record {
  inside = λ m p octets e at. let i = at.inside in let b = at.end in (omega arith, omega arith);
  one_value = λ m p a b e f at other. (at.all ∙ sym other.all, at.end ∙ sym other.end);
  not_both = λ m p octets e why at never. never;
  one_fault = λ m p why other never also. absurd never;
}
