-- Values of a fixed length are a reading.
use Rattle.std.specs.Prelude.{ℕ, List}
use Rattle.std.proofs.Common.{arith, ap, sym, ◌∙◌}
use Rattle.domain_wire.specs.Refusals.{refusal}
use Rattle.domain_wire.specs.Values.{IsReading, FixedAt, ShortAt}

pub fixed_reading : {Seen : Type 0} (len : ℕ) (value_of : List ℕ → Seen) → IsReading (FixedAt len value_of) (ShortAt len)
fixed_reading len value_of = record {
  inside = λ m p seen e at. let w = at.whole in let b = at.after in (omega arith, omega arith);
  one_value = λ m p a b e f at other. (at.value ∙ sym other.value, at.after ∙ sym other.after);
  not_both = λ m p seen e why at short. let w = at.whole in let c = short.cut in omega arith;
  one_fault = λ m p why other short also. ap refusal (short.told ∙ sym also.told);
}
