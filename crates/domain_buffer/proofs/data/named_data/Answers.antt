use Rattle.std.proofs.Common.{sym}
use Rattle.domain_buffer.proofs.Fronts.{no_second, wrong_after}
use Rattle.domain_buffer.proofs.data.named_data.Goals as goal

pub returns-in_default-second_len-clause-none : goal.returns-in_default-second_len-clause-none
returns-in_default-second_len-clause-none c none f named all =
    no_second c.args.rtype c.args.octets.now c.in-Some.shape c.in-Some-front_len.first_len _ _ (sym c.in-Some.ensures.shape) c.split_at.ensures.back c.split_at-2.ensures.back c.in-Some-front_len.ensures c.in_default-second_len.ensures f named all

pub returns-then-after-shape-clause-none : goal.returns-then-after-shape-clause-none
returns-then-after-shape-clause-none c none f named all =
    wrong_after c.args.rtype c.args.octets.now c.in-Some.shape c.in-Some-front_len.first_len c.in-Some-second_len.other_len _ _ _ (sym c.in-Some.ensures.shape) c.split_at.ensures.back c.split_at-2.ensures.back c.split_at-3.ensures.back c.in-Some-front_len.ensures c.in-Some-second_len.ensures c.if-after-shape.true f named all
