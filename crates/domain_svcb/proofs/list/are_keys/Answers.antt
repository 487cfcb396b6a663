use Rattle.std.proofs.Common.{refl, arith, rules, ◌∙◌}
use Rattle.domain_svcb.proofs.ListItems.{keys_next}
use Rattle.domain_svcb.proofs.list.are_keys.Goals as goal

pub loop-rest-preserved : goal.loop-rest-preserved
loop-rest-preserved c = record {
  same = c.loop-rest.invariant.same ∙ keys_next c.loop-rest.least c.loop-rest.rest.now _ _ c.from.result c.from-in-len2-up.result c.in-len2-up.len_at_least refl c.from.ensures c.from-in-len2-up.ensures refl (search rules);
  least = search rules;
}
