use Rattle.std.proofs.Common.{◌+◌, ◌++◌, ◌∷◌, drop, length, sym, ap, subst, ◌∙◌}
use Rattle.std.proofs.lemmas.List.{drop_more, drop_all, map-append, length-map}
use Rattle.domain_zone_response.specs.Included.{cut_of}
use Rattle.domain_zone_response.specs.Views.{TakesPart}
use Rattle.domain_zone_response.proofs.Parting.{begins, takes_part, ends}
use Rattle.domain_zone_response.proofs.glue.glue_of.Goals as goal
use Rattle.domain_zone_signed.specs.SignedViews.{response_view, response_views, signed_last, signed_sections}

pub loop-set-init : goal.loop-set-init
loop-set-init c =
    let cut = cut_of (signed_last c.args.response.now) in
    let all = (signed_sections c.args.response.now).additional in
    begins cut all _ _ _ c.additional-set-items.ensures (ap response_views c.new-sets.ensures.items) (ap response_views c.new-others.ensures.items)

pub loop-set-preserved : goal.loop-set-preserved
loop-set-preserved c =
    let items = c.additional-set-items.result.now in
    let i = c.loop-set.set-index in
    let x = c.set-item.result in
    let more = ap response_views (drop_more items i x c.loop-set-test.true) ∙ ap (λ y. response_view y ∷ response_views (drop (i + 1) items)) (sym c.set-item.is) in
    let part = subst (λ k. TakesPart k (response_view x) (response_views c.loop-set.sets.items) (response_views c.loop-set.others.items) (response_views c.push_part.new.sets.items) (response_views c.push_part.new.others.items))
    (c.cut_name-cut.ensures ∙ ap cut_of c.outcome.ensures) c.in_ok-push_part.ensures in
    takes_part _ _ _ (response_views (drop (i + 1) items)) _ _ _ _ (response_view x) more part c.loop-set.invariant

pub returns : goal.returns
returns c = record {
  ys = response_views c.loop-set.sets.items;
  zs = response_views c.loop-set.others.items;
  parts = ends _ _ _ _ _ (ap response_views (drop_all c.loop-set.set-index c.additional-set-items.result.now c.loop-set-test.false)) c.loop-set.invariant;
  sets = ap response_views c.in_ok-extend_from_slice.ensures.items ∙ (map-append response_view _ _ ∙ ap (λ l. response_views c.loop-set.sets.items ++ response_views l) c.as_slice.ensures.value);
  required = ap length c.as_slice-required.ensures.value ∙ sym (length-map c.loop-set.sets.items response_view);
}
