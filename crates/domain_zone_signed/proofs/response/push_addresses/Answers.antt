use Rattle.std.proofs.Common.{◌++◌, ◌∷◌, [], refl, sym, ap, subst, ◌∙◌, append_assoc, append-nil}
use Rattle.domain_zone.specs.Kept.{zone_view}
use Rattle.domain_zone_answer.specs.AddressViews.{addresses_left}
use Rattle.domain_zone_answer.specs.Views.{section_view}
use Rattle.domain_zone_signed.specs.SignedViews.{response_views, AddsAllSigned}
use Rattle.domain_zone_signed.proofs.Signing.{adds_none, adds_both}
use Rattle.domain_zone_signed.proofs.response.push_addresses.Goals as goal

pub loop-address-init : goal.loop-address-init
loop-address-init c = ((tt, tt), ([], refl, adds_none _ _ _))

pub loop-address-preserved : goal.loop-address-preserved
loop-address-preserved c =
    let s = section_view c.in-Some.address in
    let done = c.loop-address.invariant.1 in
    let rest = addresses_left c.next.new.self in (
      (tt, tt),
      (done.0 ++ s ∷ [], done.1 ∙ (ap (λ l. done.0 ++ l) c.in-Some.ensures.steps ∙ sym (append_assoc done.0 (s ∷ []) rest)), adds_both _ _ done.0 (s ∷ []) _ _ _ done.2 c.in_ok-push_signed.ensures),
    )

pub returns : goal.returns
returns c =
    let done = c.loop-address.invariant.1 in
    let all = done.1 ∙ (ap (λ l. done.0 ++ l) c.in_default.ensures.steps.0 ∙ append-nil done.0) in
    subst (λ l. AddsAllSigned (zone_view c.args.zone.now) c.args.dnssec_ok l (response_views c.args.sets.now.items) (response_views c.loop-address.sets.items)) (sym all) done.2
