use Rattle.std.proofs.Common.{ap, sym, ◌∙◌}
use Rattle.std.specs.Prelude.{fold}
use Rattle.domain_zone_answer.specs.Sets.{set_list}
use Rattle.domain_zone_signed.specs.ChainSections.{with_rrset}
use Rattle.domain_zone_signed.specs.ChainViews.{answer_views}
use Rattle.domain_zone_signed.proofs.denials.push_one.Goals as goal

pub returns : goal.returns
returns c =
    let before = answer_views c.args.sets.now.items in
    c.in_ok-push_new.ensures.pushed ∙ (ap (with_rrset before) c.new.ensures ∙ ap (λ s. fold with_rrset before (set_list s)) (sym c.in-Some.is))
