use Rattle.std.proofs.Common.{ap, nat_eq, ◌∙◌}
use Rattle.domain_compress.proofs.Marking.{seen_marked}
use Rattle.domain_compress.proofs.marks.may_stand_there.Goals as goal

pub returns-then-hashed : goal.returns-then-hashed
returns-then-hashed c = λ ls some marked s.
    let kept = c.requires c.if-hashed.true in
    c.is_marked.ensures ∙ ap (λ z. nat_eq z 1) (seen_marked _ _ _ _ ls kept.0 kept.2 some marked s)
