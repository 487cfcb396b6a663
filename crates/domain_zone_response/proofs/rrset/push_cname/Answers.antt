use Rattle.std.proofs.Common.{[], ◌∷◌, refl, sym, ap, ◌∙◌}
use Rattle.domain_header.specs.Values.{class_number}
use Rattle.domain_zone_answer.specs.Views.{cname_view}
use Rattle.domain_zone_response.proofs.Growing.{head_is, single_stops, gains_some}
use Rattle.domain_zone_response.proofs.rrset.push_cname.Goals as goal

pub returns-clause-some : goal.returns-clause-some
returns-clause-some g c = gains_some _ _ _ c.push_record.result _ _ c.push_record.ensures.pushed c.push_record.ensures.refused

pub returns-clause-why : goal.returns-clause-why
returns-clause-why g c refused =
    single_stops _ _ (class_number c.args.class) (cname_view c.args.cname) _ _ _ _
    (sym c.target-target.ensures ∙ ap (λ o. o ∷ []) (sym c.put_name-len.ensures.wire))
    (head_is _ _ _ _ _ _ _ _ c.owner.ensures refl refl c.ttl.ensures) (c.push_record.ensures.why refused)
