use Rattle.std.proofs.Common.{◌++◌, ◌∷◌, [], sym, ap, ◌∙◌, append_assoc}
use Rattle.std.proofs.lemmas.List.{map-append}
use Rattle.domain_zone_signed.specs.ChainViews.{answer_view}
use Rattle.domain_zone_signed.specs.SignedViews.{signatures_view, response_view, response_views}
use Rattle.domain_zone_signed.proofs.Signing.{adds_plain, adds_signed}
use Rattle.domain_zone_signed.proofs.response.push_signed.Goals as goal

pub returns-then-not-dnssec_ok : goal.returns-then-not-dnssec_ok
returns-then-not-dnssec_ok c =
    adds_plain _ _ (answer_view c.args.set) _ _ c.if-not-dnssec_ok.true (ap response_views c.in_ok-push.ensures.items ∙ map-append response_view _ _)

pub returns-in_default : goal.returns-in_default
returns-in_default c =
    adds_signed _ _ (answer_view c.args.set) _ _ _ c.if-not-dnssec_ok.false
    (c.in_default.ensures (answer_view c.args.set) (sym c.owner.ensures) (sym c.rtype.ensures) (sym c.ttl.ensures))
    (ap response_views c.in_ok-push.ensures.items ∙ map-append response_view _ _)

pub returns : goal.returns
returns c =
    let before = response_views c.args.sets.now.items in
    let first = ap response_views c.in_ok-push.ensures.items ∙ map-append response_view _ _ in
    let second = ap response_views c.in_ok-push-2.ensures.items ∙ map-append response_view _ _ in
    adds_signed _ _ (answer_view c.args.set) (signatures_view c.in-Some.signatures ∷ []) _ _ c.if-not-dnssec_ok.false
    (c.in-Some.ensures (answer_view c.args.set) (sym c.owner.ensures) (sym c.rtype.ensures) (sym c.ttl.ensures))
    (second ∙ (ap (λ l. l ++ signatures_view c.in-Some.signatures ∷ []) first ∙ append_assoc before (answer_view c.args.set ∷ []) (signatures_view c.in-Some.signatures ∷ [])))
