-- Taking all remaining octets is a reading.
use Rattle.std.specs.Prelude.{length}
use Rattle.std.proofs.Common.{arith, ap, sym, ◌∙◌}
use Rattle.domain_wire.specs.Values.{IsReading}
use Rattle.domain_rdata.specs.AnyData.{IsAllThatIsLeft, TooMuchIsLeft}

-- At each offset, either all remaining octets are the data, or they are too many; never both.
pub all_that_is_left : IsReading IsAllThatIsLeft TooMuchIsLeft
all_that_is_left = record {
  inside = λ m p seen e at. let i = at.inside in let b = at.after in (omega arith, omega arith);
  one_value = λ m p a b e f at other. (at.all ∙ sym other.all, at.after ∙ sym other.after);
  not_both = λ m p seen e why at long. let few = at.few in let all = ap length at.all in let many = long.many in omega arith;
  one_fault = λ m p why other long also. long.told ∙ sym also.told;
}
