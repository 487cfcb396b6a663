use Rattle.std.proofs.Common.{◌-◌, slice_index_or, arith}
use Rattle.domain_builder.proofs.Digits.{never_alone}
use Rattle.domain_builder.proofs.Reversing.{decimal_fits, decimal_step}
use Rattle.domain_builder.proofs.reverse.decimal_labels.Goals as goal

pub loop-left-preserved : goal.loop-left-preserved
loop-left-preserved c =
    let fits = decimal_fits c.loop-left.labels.built c.loop-left.left (slice_index_or c.args.octets.now (c.loop-left.left - 1) 0) c.loop-left-test.true c.loop-left.invariant.few (c.type_inv.octets (c.loop-left.left - 1)).fits in
    let step = decimal_step c.loop-left.labels.built c.append_dec_u8_label.new.self.built c.args.octets.now c.loop-left.left c.loop-left-test.true c.loop-left.invariant.offset c.loop-left.invariant.built (c.type_inv.octets (c.loop-left.left - 1)).fits c.in-Ok.ensures.made in
    record { built = step; few = rw c.in-Ok.ensures.made fits; offset = omega (arith, c.loop-left.invariant.offset) }

pub unreachable-requires : goal.unreachable-requires
unreachable-requires c =
    let fits = decimal_fits c.loop-left.labels.built c.loop-left.left (slice_index_or c.args.octets.now (c.loop-left.left - 1) 0) c.loop-left-test.true c.loop-left.invariant.few (c.type_inv.octets (c.loop-left.left - 1)).fits in
    never_alone _ _ c.in_default.field-0 (omega (arith, fits)) (omega (arith, fits)) c.in_default.ensures.answer
