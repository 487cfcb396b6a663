use Rattle.std.proofs.Common.{inl, inr, refl, subst}
use Rattle.std.specs.Prelude.{IfSome}
use Rattle.domain_message.specs.declared.section.Section.TheVariants.{Authority, Additional}
use Rattle.domain_message.proofs.Sections.{no_records, records_to, GivesSection}
use Rattle.domain_message.proofs.message.Message.additional.Goals as goal

pub returns-in-Err-clause-err : goal.returns-in-Err-clause-err
returns-in-Err-clause-err g c = inl c.in-Err.ensures.err

pub returns-in-Ok-Some-clause-ok : goal.returns-in-Ok-Some-clause-ok
returns-in-Ok-Some-clause-ok g c =
    let before = c.in-Ok.ensures.ok in
    let next = records_to _ Authority Additional _ _ _ refl before.2 (subst (λ r. IfSome r (GivesSection c.in-Ok.authority)) c.in-Ok-Some.field-0-is c.in-Ok-Some.ensures.ok) in
    (next.0, (before.0, before.1, next.1), next.2)

pub returns-in-Err-next_section-clause-err : goal.returns-in-Err-next_section-clause-err
returns-in-Err-next_section-clause-err g c =
    let before = c.in-Ok.ensures.ok in
    inr (before.0, before.1, no_records _ _ _ _ _ before.2 c.in-Err-next_section.ensures.err)
