use Rattle.std.proofs.Common.{refl}
use Rattle.domain_make.proofs.Opting.{size_alone, size_parts, size_is, status_of_size}
use Rattle.domain_make.proofs.opt.size_of.Goals as goal

pub returns-in-None-clause-none : goal.returns-in-None-clause-none
returns-in-None-clause-none c = λ _ n code is. c.in-None.ensures.none refl n (size_alone _ n code (c.in_default.ensures.none refl) is)

pub returns-in_default-after-clause-none : goal.returns-in_default-after-clause-none
returns-in_default-after-clause-none c = λ _ n code is.
    let its = size_parts _ _ _ n code c.in-Some.ensures.some c.in-Some.ensures.first is in
    c.in_default-after.ensures its.status its.rest_is

pub returns-in_default-number_below-clause-none : goal.returns-in_default-number_below-clause-none
returns-in_default-number_below-clause-none c = λ _ n code is. c.in_default-number_below.ensures.none refl n (size_parts _ _ _ n code c.in-Some.ensures.some c.in-Some.ensures.first is).number

pub returns-in_default-status_of-clause-none : goal.returns-in_default-status_of-clause-none
returns-in_default-status_of-clause-none c = λ _ n code is.
    let its = size_parts _ _ _ n code c.in-Some.ensures.some c.in-Some.ensures.first is in
    c.in_default-status_of.ensures.none refl its.code (status_of_size _ _ _ n its c.in-Some-after.ensures)

pub returns-clause-some : goal.returns-clause-some
returns-clause-some c = size_is _ _ _ _ _ _ c.in-Some.ensures.some c.in-Some-after.ensures c.in-Some-number_below-2.ensures.some c.in-Some-status_of.ensures.some
