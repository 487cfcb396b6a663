use Rattle.std.proofs.Common.{refl}
use Rattle.domain_make.proofs.Drafting.{takes_below}
use Rattle.domain_make.proofs.Refusing.{below_no_opt}
use Rattle.domain_make.proofs.line.take_below.Goals as goal

pub take_remark-requires-clause-no_opt : goal.take_remark-requires-clause-no_opt
take_remark-requires-clause-no_opt g c = λ text end. below_no_opt _ text c.requires.no_edns ((rw c.in-None.is at c.in_ok-next.ensures.none) refl) end

pub returns-in-Some-clause-ok : goal.returns-in-Some-clause-ok
returns-in-Some-clause-ok g c = takes_below _ _ _ _ (rw c.in-Some.is at c.in_ok-next.ensures.ok)
