use Rattle.std.proofs.Common.{refl, ap, ◌∙◌}
use Rattle.domain_header.specs.Values.{class_number}
use Rattle.domain_zone_answer.specs.Views.{section_view}
use Rattle.domain_zone_response.specs.Pushing.{record_of}
use Rattle.domain_zone_response.proofs.Growing.{whole_rrset, rrset_stops}
use Rattle.domain_zone_response.proofs.rrset.push_rrset.Goals as goal

pub returns-then-not-pushed-clause-why : goal.returns-then-not-pushed-clause-why
returns-then-not-pushed-clause-why g c refused =
    let k = class_number c.args.class in
    let s = section_view c.args.set in
    rrset_stops _ _ _ k s (λ d. d.items) c.rdata-rdata.result.now c.loop-item.item-index c.item-item.result _ _ _ _
    c.loop-item-test.true c.item-item.is (c.head_of.ensures ∙ ap (record_of k s) c.as_slice-octets.ensures.value) c.rdata-rdata.ensures
    c.loop-item.invariant.room c.loop-item.invariant.gains (c.if-not-pushed.ensures.why refl)

pub returns-clause-pushed : goal.returns-clause-pushed
returns-clause-pushed g c pushed =
    whole_rrset _ _ (class_number c.args.class) (section_view c.args.set) (λ d. d.items) c.rdata-rdata.result.now c.loop-item.item-index _ _
    c.loop-item-test.false c.rdata-rdata.ensures c.loop-item.invariant.gains
