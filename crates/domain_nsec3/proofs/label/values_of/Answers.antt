use Rattle.std.proofs.Common.{arith, rules}
use Rattle.domain_nsec3.proofs.Reading.{value_added}
use Rattle.domain_nsec3.proofs.label.values_of.Goals as goal

pub loop-i-preserved : goal.loop-i-preserved
loop-i-preserved c = record {
  long = search rules;
  read = value_added c.args.label.now c.loop-i.values c.loop-i.i c.in-Some.value (omega (arith, c.loop-i.invariant.long, c.loop-i-test.true)) c.loop-i.invariant.read c.in-Some.ensures.some;
}
