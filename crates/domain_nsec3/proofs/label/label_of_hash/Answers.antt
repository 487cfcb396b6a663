use Rattle.std.proofs.Common.{◌≡◌, ◌∙◌, length, ap, arith}
use Rattle.domain_nsec3.proofs.Digits.{group_written, group_sum, all_written, put_long}
use Rattle.domain_nsec3.proofs.label.label_of_hash.Goals as goal

pub group-preserved : goal.group-preserved
group-preserved c =
    let digits = c.copy_from_slice.ensures.after ∙ c.group_of-digits.ensures.digits in
    let size : length c.copy_from_slice.new.self ≡ 8 = ap length digits in record {
      written = group_written c.group.label _ c.group.rest.now _ c.group.at _ _ (omega (arith, c.in-len5-up.len_at_least)) (omega arith) digits (omega arith) c.group.invariant.written;
      sum = group_sum c.group.rest.now c.group.at _ (omega (arith, c.in-len5-up.len_at_least)) (omega arith) c.group.invariant.sum;
      long = put_long c.group.label _ c.group.at _ 8 32 c.group.invariant.long size (omega arith) (omega (arith, c.in-len5-up.len_at_least, c.group.invariant.sum));
    }

pub returns : goal.returns
returns c =
    all_written c.group.label _ c.group.rest.now c.group.at c.group.invariant.long c.group.invariant.sum (omega (arith, c.in_default.len_below)) c.group.invariant.written
