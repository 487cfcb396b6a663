use Rattle.std.proofs.Common.{◌≡◌, ◌∙◌, length, ap, arith}
use Rattle.domain_nsec3.proofs.Digits.{put_long}
use Rattle.domain_nsec3.proofs.Reading.{not_long, not_digits, group_read, all_read}
use Rattle.domain_nsec3.proofs.label.hash_of_label.Goals as goal

pub returns-then-label-ne-LABEL_LEN-clause-none : goal.returns-then-label-ne-LABEL_LEN-clause-none
returns-then-label-ne-LABEL_LEN-clause-none c = λ hash. not_long c.args.label.now hash c.if-label-ne-LABEL_LEN.true

pub returns-in_default-clause-none : goal.returns-in_default-clause-none
returns-in_default-clause-none c = λ hash.
    let other = c.in_default.ensures.none in
    not_digits c.args.label.now hash other.0 (omega (arith, c.if-label-ne-LABEL_LEN.false)) other.1 other.2

pub loop-i-preserved : goal.loop-i-preserved
loop-i-preserved c =
    let values = c.in-Some.ensures.some in
    let size : length c.copy_from_slice.new.self ≡ 5 = ap length c.copy_from_slice.ensures.after ∙ c.octets_of-octets.ensures.five in record {
      long = put_long c.loop-i.hash _ _ _ 5 20 c.loop-i.invariant.long size (omega arith) (omega (arith, c.loop-i-test.true));
      read = group_read c.loop-i.hash c.in-Some.values c.octets_of-octets.result _ c.loop-i.i _ c.loop-i.invariant.long values.0 (omega (arith, c.loop-i-test.true)) c.copy_from_slice.ensures.after
          c.octets_of-octets.ensures.five c.octets_of-octets.ensures.digits c.loop-i.invariant.read;
    }

pub returns-clause-some : goal.returns-clause-some
returns-clause-some c =
    all_read c.args.label.now c.loop-i.hash c.in-Some.values c.loop-i.i (omega (arith, c.if-label-ne-LABEL_LEN.false)) c.loop-i.invariant.long (omega (arith, c.loop-i-test.false)) c.in-Some.ensures.some
    c.loop-i.invariant.read
