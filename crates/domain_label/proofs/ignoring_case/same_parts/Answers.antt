use Rattle.std.proofs.Common.{◌-◌, length, arith, refl, sym, true≢false}
use Rattle.domain_label.proofs.ComparedOctets.{low_part, low_further, low_covered, sliced_low}
use Rattle.domain_label.proofs.ignoring_case.same_parts.Goals as goal

pub returns-then-not-same_each : goal.returns-then-not-same_each
returns-then-not-same_each c = (
  λ t. absurd (true≢false (sym t)),
  λ e. c.if-not-same_each.ensures.1 ((sliced_low c.args.a.now c.args.b.now _ (omega arith) (omega (arith, c.requires.sized))).0 e),
)

pub returns-then-not-same_each-2 : goal.returns-then-not-same_each-2
returns-then-not-same_each-2 c = (
  λ t. absurd (true≢false (sym t)),
  λ e. c.if-not-same_each-2.ensures.1 (low_part c.args.a.now c.args.b.now c.parts.offset _ e),
)

pub parts-preserved : goal.parts-preserved
parts-preserved c = record {
  inside = omega arith;
  front = low_further c.args.a.now c.args.b.now c.parts.offset 16 _ (omega arith) c.parts.invariant.front (c.if-not-same_each-2.ensures.0 refl);
}

pub returns : goal.returns
returns c =
    let back = (sliced_low c.args.a.now c.args.b.now (length c.args.a.now - 16) (omega arith) (omega (arith, c.requires.sized))).1 (c.if-not-same_each.ensures.0 refl) in (
      λ t. low_covered c.args.a.now c.args.b.now _ c.parts.offset c.parts-test.false c.parts.invariant.front back,
      λ e. refl,
    )
