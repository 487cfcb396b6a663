use Rattle.std.proofs.Common.{refl, ap, map, ◌∙◌}
use Rattle.domain_header.specs.Values.{class_number}
use Rattle.domain_message.specs.Models.{question_fields}
use Rattle.domain_name.specs.Names.{name_labels}
use Rattle.domain_parsed.specs.ParsedNames.{parsed_labels}
use Rattle.domain_rdata.specs.Rtypes.{rtype_number}
use Rattle.domain_zone.specs.Kept.{zone_view}
use Rattle.domain_zone_signed.proofs.Calling.{may_follow, has_sections, has_chain}
use Rattle.domain_zone_response.proofs.Responding.{follows_with, answers_question}
use Rattle.domain_zone_response.proofs.respond.answer_from.Goals as goal
use Rattle.domain_zone_signed.specs.SignedViews.{signed_sections}

pub follow-requires : goal.follow-requires
follow-requires g c = may_follow _ _ _ _ _ c.outcome.ensures c.respond-first.ensures.outcome

pub respond_along-requires-clause-sections : goal.respond_along-requires-clause-sections
respond_along-requires-clause-sections g c = has_sections _ _ _ _ _ c.respond-first.ensures.name c.respond-first.ensures.sections

pub respond_along-requires-clause-chain : goal.respond_along-requires-clause-chain
respond_along-requires-clause-chain g c =
    has_chain _ _ _ _ _ _ _ _ _ c.respond-first.ensures.name c.outcome.ensures (ap (map name_labels) c.as_slice-names.ensures.value ∙ c.in-Ok-names_of.ensures) (ap (map name_labels) c.as_slice.ensures.value) c.in-Ok-follow.ensures

pub returns-clause-answers : goal.returns-clause-answers
returns-clause-answers g c =
    let names = ap (map name_labels) c.as_slice-names.ensures.value ∙ c.in-Ok-names_of.ensures in
    let asked = has_chain _ _ _ _ _ _ _ _ _ c.respond-first.ensures.name c.outcome.ensures names (ap (map name_labels) c.as_slice.ensures.value) c.in-Ok-follow.ensures in
    let follows = follows_with _ _ _ _ _ _ _ _ _ (signed_sections c.in-Ok-add_dnssec.response) _ c.respond-first.ensures.name c.in-Ok-add_dnssec.ensures.last c.in-Ok-respond_along.ensures asked c.in-Ok-add_dnssec.ensures.sections in
    answers_question _ (zone_view c.args.zone.now) _ _ _ c.args.query c.response_header.result (question_fields c.args.question.now) _ _ _ _ _ (signed_sections c.in-Ok-add_dnssec.response) _ _ _ _ _ _ _ _ _
    (c.respond-first.ensures.name ∙ (c.for_slice-name.ensures ∙ (c.in-Ok.ensures ∙ ap parsed_labels c.qname.ensures))) (c.to_int-rtype.ensures ∙ ap rtype_number c.qtype.ensures) (ap class_number c.class.ensures) c.rcode.ensures refl
    follows c.in_default-push_question.ensures.ok c.push_question.ensures.capacity c.in-Ok-push_sections.ensures.puts c.is_authoritative-aa.ensures c.response_header.ensures c.set_header.ensures.header c.set_header.new.self.within
