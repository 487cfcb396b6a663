use Rattle.std.proofs.Common.{◌∷◌, [], map, sym, ap, subst, ◌∙◌}
use Rattle.domain_header.specs.Values.{class_number}
use Rattle.domain_message_builder.specs.Builders.{state, target_room}
use Rattle.domain_zone_response.specs.Pushing.{record_of, Gains, CannotAdd}
use Rattle.domain_zone_response.proofs.Covering.{keeps_one, keeps_none, passes, fails}
use Rattle.domain_zone_response.proofs.Growing.{gains_none}
use Rattle.domain_zone_signed.specs.Signing.{covers}
use Rattle.domain_zone_signed.specs.SignedViews.{signatures_type, signatures_view}
use Rattle.domain_zone_response.proofs.rrset.push_signature.Goals as goal

pub returns-then-covered_type-covered-clause-pushed : goal.returns-then-covered_type-covered-clause-pushed
returns-then-covered_type-covered-clause-pushed g c pushed =
    let one = record_of (class_number c.args.class) (signatures_view c.args.signatures) in
    let other = fails _ _ (λ e. c.if-covered_type-covered.true (c.covered_type.ensures ∙ (e ∙ sym c.covered.ensures))) in
    let kept = ap (map one) (keeps_none (covers (signatures_type c.args.signatures)) c.args.octets.now other) in
    subst (λ rs. Gains g.Target.Composer.compresses c.args.section rs (state c.args.message.now) (state c.args.message.now)) (sym kept)
    (gains_none g.Target.Composer.compresses c.args.section (state c.args.message.now))

pub returns-clause-pushed : goal.returns-clause-pushed
returns-clause-pushed g c pushed =
    let one = record_of (class_number c.args.class) (signatures_view c.args.signatures) in
    let passed = passes _ _ (sym c.covered_type.ensures ∙ (c.if-covered_type-covered.false ∙ c.covered.ensures)) in
    let kept = ap (map one) (keeps_one (covers (signatures_type c.args.signatures)) c.args.octets.now passed) in
    subst (λ rs. Gains g.Target.Composer.compresses c.args.section rs (state c.args.message.now) (state c.push_record.new.message)) (sym kept)
    (subst (λ r. Gains g.Target.Composer.compresses c.args.section (r ∷ []) (state c.args.message.now) (state c.push_record.new.message)) (c.signature_head.ensures c.args.octets.now) (c.push_record.ensures.pushed pushed))

pub returns-clause-why : goal.returns-clause-why
returns-clause-why g c refused = (
  passes _ _ (sym c.covered_type.ensures ∙ (c.if-covered_type-covered.false ∙ c.covered.ensures)),
  subst (λ r. CannotAdd g.Target.Composer.compresses c.args.section r (state c.args.message.now) (target_room c.args.message.now)) (c.signature_head.ensures c.args.octets.now) (c.push_record.ensures.why refused),
)
