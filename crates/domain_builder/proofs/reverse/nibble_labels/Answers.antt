use Rattle.std.proofs.Common.{◌-◌, ◌/◌, ◌%◌, true, slice_index_or, arith}
use Rattle.std.specs.Fmt.{digit_glyph}
use Rattle.domain_builder.proofs.Digits.{never_alone}
use Rattle.domain_builder.proofs.Reversing.{nibble_fits, nibbles_fit, nibble_step}
use Rattle.domain_builder.proofs.reverse.nibble_labels.Goals as goal

pub loop-left-preserved : goal.loop-left-preserved
loop-left-preserved c =
    let fits = nibbles_fit c.loop-left.labels.built c.append_hex_digit_label.new.self.built c.loop-left.left (digit_glyph true (slice_index_or c.args.octets.now (c.loop-left.left - 1) 0 % 16)) (digit_glyph true (slice_index_or c.args.octets.now (c.loop-left.left - 1) 0 / 16 % 16)) c.loop-left-test.true c.loop-left.invariant.few c.in-Ok.ensures.made in
    let step = nibble_step c.loop-left.labels.built c.append_hex_digit_label.new.self.built c.append_hex_digit_label-in-loop-left.new.self.built c.args.octets.now c.loop-left.left c.loop-left-test.true c.loop-left.invariant.offset c.loop-left.invariant.built c.in-Ok.ensures.made c.in-Ok-append_hex_digit_label.ensures.made in
    record { built = step; few = rw c.in-Ok-append_hex_digit_label.ensures.made fits; offset = omega (arith, c.loop-left.invariant.offset) }

pub unreachable-requires : goal.unreachable-requires
unreachable-requires c =
    let fits = nibble_fits c.loop-left.labels.built c.loop-left.left (digit_glyph true (slice_index_or c.args.octets.now (c.loop-left.left - 1) 0 % 16)) c.loop-left-test.true c.loop-left.invariant.few in
    never_alone _ _ c.in_default.field-0 (omega (arith, fits)) (omega (arith, fits)) c.in_default.ensures.answer

pub unreachable-requires-in_default-append_hex_digit_label : goal.unreachable-requires-in_default-append_hex_digit_label
unreachable-requires-in_default-append_hex_digit_label c =
    let fits = nibbles_fit c.loop-left.labels.built c.append_hex_digit_label.new.self.built c.loop-left.left (digit_glyph true (slice_index_or c.args.octets.now (c.loop-left.left - 1) 0 % 16)) (digit_glyph true (slice_index_or c.args.octets.now (c.loop-left.left - 1) 0 / 16 % 16)) c.loop-left-test.true c.loop-left.invariant.few c.in-Ok.ensures.made in
    never_alone _ _ c.in_default-append_hex_digit_label.field-0 (omega (arith, fits)) (omega (arith, fits)) c.in_default-append_hex_digit_label.ensures.answer
