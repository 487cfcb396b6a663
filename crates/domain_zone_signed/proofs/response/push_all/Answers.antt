use Rattle.std.proofs.Common.{◌++◌, ◌∷◌, [], take, sym, ap, subst, ◌∙◌, take_all}
use Rattle.std.proofs.lemmas.List.{map_more}
use Rattle.domain_zone.specs.Kept.{zone_view}
use Rattle.domain_zone_signed.specs.ChainViews.{answer_view, answer_views}
use Rattle.domain_zone_signed.specs.SignedViews.{response_views, AddsAllSigned}
use Rattle.domain_zone_signed.proofs.Signing.{adds_none, adds_more}
use Rattle.domain_zone_signed.proofs.response.push_all.Goals as goal

pub loop-set-init : goal.loop-set-init
loop-set-init c = adds_none _ _ _

pub loop-set-preserved : goal.loop-set-preserved
loop-set-preserved c =
    let from = c.args.from.now in
    let i = c.loop-set.set-index in
    let more = map_more answer_view from i c.set-item.result c.loop-set-test.true ∙ ap (λ s. answer_views (take i from) ++ answer_view s ∷ []) (sym c.set-item.is) in
    adds_more _ _ _ (answer_views (take i from)) (answer_view c.set-item.result) _ _ _ more c.loop-set.invariant c.in_ok-push_signed.ensures

pub returns : goal.returns
returns c =
    let all = ap answer_views (take_all c.loop-set.set-index c.args.from.now c.loop-set-test.false) in
    subst (λ l. AddsAllSigned (zone_view c.args.zone.now) c.args.dnssec_ok l (response_views c.args.sets.now.items) (response_views c.loop-set.sets.items)) all c.loop-set.invariant
