use Rattle.std.proofs.Common.{refl, arith}
use Rattle.examples.proofs.Replies.{begun_answer, pushed_or_not, is_whole_or_cut, limit_stays, cannot_begin, cannot_repeat, not_even_cut}
use Rattle.examples.specs.Served.NotEvenCut.{not_begun}
use Rattle.examples.proofs.serving.short_answer.Goals as goal

pub returns-in-Err-clause-none : goal.returns-in-Err-clause-none
returns-in-Err-clause-none g c none = not_begun (cannot_begin _ _ _ _ 512 _ (omega arith) c.in-Err.ensures.why)

pub returns-in-Err-start_answer-clause-none : goal.returns-in-Err-start_answer-clause-none
returns-in-Err-start_answer-clause-none g c none =
    not_begun (cannot_repeat _ _ _ _ _ 512 _ _ c.in-Ok.ensures.ok c.in-Ok.ensures.capacity c.in-Err-start_answer.ensures.why)

pub returns-in-Err-finish_or_truncate-clause-none : goal.returns-in-Err-finish_or_truncate-clause-none
returns-in-Err-finish_or_truncate-clause-none g c none =
    not_even_cut c.push-pushed.result _ _ _ _ _ _ _ _ _ _ 512 _ _ _ refl (begun_answer _ _ 0 _ 512 _ _ c.masked_from_int.ensures c.in-Ok.ensures.ok c.in_default.ensures.ok)
    (omega (arith, c.in-Ok.ensures.capacity, c.start_answer.ensures.capacity, c.push-pushed.ensures.capacity)) c.push-pushed.ensures.ok c.push-pushed.ensures.unchanged c.push-pushed.ensures.why c.in-Err-finish_or_truncate.ensures.why

pub returns-in-Ok-finish_or_truncate-clause-whole_or_cut : goal.returns-in-Ok-finish_or_truncate-clause-whole_or_cut
returns-in-Ok-finish_or_truncate-clause-whole_or_cut g c =
    let begun = begun_answer _ _ 0 _ 512 _ _ c.masked_from_int.ensures c.in-Ok.ensures.ok c.in_default.ensures.ok in
    is_whole_or_cut c.push-pushed.result _ _ _ _ _ _ _ _ 512 _ _ _ refl begun (omega (arith, c.in-Ok.ensures.capacity, c.start_answer.ensures.capacity, c.push-pushed.ensures.capacity))
    (pushed_or_not c.push-pushed.result _ _ _ _ _ _ 512 _ _ _ begun (omega (arith, c.in-Ok.ensures.capacity, c.start_answer.ensures.capacity)) c.push-pushed.ensures.ok c.push-pushed.ensures.unchanged c.push-pushed.ensures.why c.in-Ok-finish_or_truncate.ensures.refused)
    c.in-Ok-finish_or_truncate.ensures.ok

pub returns-in-Ok-finish_or_truncate-clause-short : goal.returns-in-Ok-finish_or_truncate-clause-short
returns-in-Ok-finish_or_truncate-clause-short g c =
    let limit = limit_stays c.push-pushed.result _ _ _ _ 512 _ _ (begun_answer _ _ 0 _ 512 _ _ c.masked_from_int.ensures c.in-Ok.ensures.ok c.in_default.ensures.ok) c.push-pushed.ensures.ok c.push-pushed.ensures.unchanged in
    omega (arith, limit, c.in-Ok-finish_or_truncate.ensures.within)
