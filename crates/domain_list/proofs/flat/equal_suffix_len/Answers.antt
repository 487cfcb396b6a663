use Rattle.std.proofs.Common.{arith, refl}
use Rattle.domain_list.proofs.EqualSuffixLabels.{alike_none, alike_more}
use Rattle.domain_list.proofs.flat.equal_suffix_len.Goals as goal

pub parts-init : goal.parts-init
parts-init c = record { alike = alike_none _ _ _ _ refl refl; a_inside = omega arith; b_inside = omega arith }

pub parts-preserved : goal.parts-preserved
parts-preserved c = record {
  alike = alike_more 8 c.parts.invariant.alike c.parts-test.true c.parts.invariant.a_inside c.if-b_end-ge-PART.true c.parts.invariant.b_inside (c.if-not-same_octets.ensures.0 refl);
  a_inside = omega arith;
  b_inside = omega arith;
}
