use Rattle.std.proofs.Common.{◌∷◌, [], map, refl, ap, subst, arith}
use Rattle.std.specs.List.{filter}
use Rattle.domain_header.specs.Values.{class_number}
use Rattle.domain_zone_response.specs.Pushing.{record_of}
use Rattle.domain_zone_response.specs.Views.{GainsRecords}
use Rattle.domain_zone_response.proofs.Covering.{passes_more, passes_all, passes_part}
use Rattle.domain_zone_response.proofs.rrset.push_signatures.Goals as goal
use Rattle.domain_zone_signed.specs.Signing.{covers}
use Rattle.domain_zone_signed.specs.SignedViews.{signatures_type, signatures_view}

pub returns-then-not-pushed-clause-why : goal.returns-then-not-pushed-clause-why
returns-then-not-pushed-clause-why g c refused =
    let why = c.if-not-pushed.ensures.why refl in
    passes_part _ _ _ (signatures_view c.args.signatures) (covers (signatures_type c.args.signatures)) (λ d. d.items) c.rdata-rdata.result.now c.loop-item.item-index c.item-item.result _ _ _ _ _
    c.loop-item-test.true c.item-item.is c.as_slice-octets.ensures.value (ap (filter (covers (signatures_type c.args.signatures))) c.rdata-rdata.ensures) c.loop-item.invariant.room c.loop-item.invariant.gains why.0 why.1

pub loop-item-preserved : goal.loop-item-preserved
loop-item-preserved g c = record {
  gains = passes_more _ _ _ (signatures_view c.args.signatures) (covers (signatures_type c.args.signatures)) (λ d. d.items) c.rdata-rdata.result.now c.loop-item.item-index c.item-item.result _ _ _
      c.loop-item-test.true c.item-item.is c.loop-item.invariant.gains
      (subst (λ o. GainsRecords c.args.section (map (record_of (class_number c.args.class) (signatures_view c.args.signatures)) (filter (covers (signatures_type c.args.signatures)) (o ∷ []))) c.loop-item.message c.push_signature-pushed.new.message)
      c.as_slice-octets.ensures.value (c.if-not-pushed.ensures.pushed refl));
  room = omega (arith, c.loop-item.invariant.room, c.push_signature-pushed.ensures.capacity);
}

pub returns-clause-pushed : goal.returns-clause-pushed
returns-clause-pushed g c pushed =
    passes_all _ _ (class_number c.args.class) (signatures_view c.args.signatures) (covers (signatures_type c.args.signatures)) (λ d. d.items) c.rdata-rdata.result.now c.loop-item.item-index _ _
    c.loop-item-test.false (ap (filter (covers (signatures_type c.args.signatures))) c.rdata-rdata.ensures) c.loop-item.invariant.gains
