use Rattle.std.proofs.Common.{◌++◌, ◌∷◌, [], map, take, refl, sym, ap, subst, ◌∙◌, take_all}
use Rattle.std.proofs.lemmas.List.{map_more}
use Rattle.domain_name.specs.Names.{name_labels}
use Rattle.domain_zone.specs.Kept.{zone_view}
use Rattle.domain_zone_signed.specs.ChainViews.{answer_views}
use Rattle.domain_zone_signed.specs.Signing.{AddsDenial, AddDenials}
use Rattle.domain_zone_signed.proofs.Signing.{denials_more, no_denials, some_denials}
use Rattle.domain_zone_signed.proofs.denials.denials_of.Goals as goal

pub returns-then-not-dnssec_ok : goal.returns-then-not-dnssec_ok
returns-then-not-dnssec_ok c = no_denials _ _ _ _ _ c.if-not-dnssec_ok.true (ap answer_views c.new-sets.ensures.items)

pub loop-name-init : goal.loop-name-init
loop-name-init c =
    let z = zone_view c.args.zone.now in
    let after = answer_views c.push_denial.new.sets.items in
    (after, subst (λ l. AddsDenial z c.args.questions.rtype (name_labels c.args.questions.name.now) (answer_views l) after) c.new-sets.ensures.items c.in_ok-push_denial.ensures, refl)

pub loop-name-preserved : goal.loop-name-preserved
loop-name-preserved c =
    let q = name_labels c.args.questions.name.now in
    let names = c.args.questions.names.now in
    let i = c.loop-name.name-index in
    let more = map_more name_labels names i c.name-item.result c.loop-name-test.true ∙ ap (λ n. map name_labels (take i names) ++ name_labels n ∷ []) (sym c.name-item.is) in
    denials_more _ _ _ (q ∷ map name_labels (take i names)) (name_labels c.name-item.result) _ _ _ (ap (λ l. q ∷ l) more) c.loop-name.invariant c.in_ok-push_denial-2.ensures

pub returns : goal.returns
returns c =
    let q = name_labels c.args.questions.name.now in
    let names = c.args.questions.names.now in
    let all = ap (λ l. q ∷ map name_labels l) (take_all c.loop-name.name-index names c.loop-name-test.false) in
    some_denials _ _ _ _ _ c.if-not-dnssec_ok.false (subst (λ l. AddDenials (zone_view c.args.zone.now) c.args.questions.rtype l [] (answer_views c.loop-name.sets.items)) all c.loop-name.invariant)
