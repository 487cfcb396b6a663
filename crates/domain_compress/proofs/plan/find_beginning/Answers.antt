use Rattle.std.proofs.Common.{refl}
use Rattle.domain_compress.specs.Compressing.Compresses.{flat}
use Rattle.domain_compress.proofs.Composing.{planned, not_pointed}
use Rattle.domain_compress.proofs.plan.find_beginning.Goals as goal

pub returns-in_default-clause-none : goal.returns-in_default-clause-none
returns-in_default-clause-none c is_none = flat (c.in_default.ensures.none refl)

pub returns-then-end-clause-none : goal.returns-then-end-clause-none
returns-then-end-clause-none c is_none =
    not_pointed _ _ _ _ c.requires.wire c.in-Some.ensures.some c.if-end.true

pub returns-clause-some : goal.returns-clause-some
returns-clause-some c =
    planned _ _ _ _ c.requires.wire c.in-Some.ensures.some c.if-end.false
