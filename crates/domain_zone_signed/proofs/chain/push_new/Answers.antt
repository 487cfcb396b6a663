use Rattle.std.proofs.Common.{ap, ◌∙◌}
use Rattle.std.proofs.lemmas.List.{map-append}
use Rattle.domain_zone_signed.specs.ChainViews.{answer_view, answer_views}
use Rattle.domain_zone_signed.proofs.Repeating.{adds_new, adds_none}
use Rattle.domain_zone_signed.proofs.chain.push_new.Goals as goal

pub returns-then-not-is_new-clause-pushed : goal.returns-then-not-is_new-clause-pushed
returns-then-not-is_new-clause-pushed c = adds_none _ _ _ c.is_new.result (ap answer_views c.as_slice.ensures.value) c.is_new.ensures c.if-not-is_new.true

pub returns-clause-pushed : goal.returns-clause-pushed
returns-clause-pushed c = adds_new _ _ _ _ c.is_new.result (ap answer_views c.as_slice.ensures.value) c.is_new.ensures c.if-not-is_new.false (ap answer_views c.in_ok-push.ensures.items ∙ map-append answer_view _ _)
