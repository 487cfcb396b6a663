use Rattle.std.proofs.Common.{refl, rules, ◌∙◌}
use Rattle.domain_svcb.proofs.ListItems.{fit_next}
use Rattle.domain_svcb.proofs.list.are_protocols.Goals as goal

pub loop-rest-preserved : goal.loop-rest-preserved
loop-rest-preserved c = c.loop-rest.invariant ∙ fit_next c.loop-rest.rest.now _ _ c.from-len.result c.in-len1-up.len_at_least refl c.from-len.ensures (search rules) (search rules) c.split_at.ensures.back
