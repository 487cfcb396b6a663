use Rattle.std.proofs.Common.{inl, inr, subst, true≢false, sym, ◌∙◌}
use Rattle.std.specs.Prelude.{IfSome}
use Rattle.domain_message.specs.LastRecords.{IsLastRecord}
use Rattle.domain_message.proofs.LastRecords.{last_additional, lacks_additional}
use Rattle.domain_message.proofs.sig0.sig0_of.Goals as goal

pub returns-in-Err-clause-err : goal.returns-in-Err-clause-err
returns-in-Err-clause-err g c = inl c.in-Err.ensures.err

pub returns-then-not-is_sig0-clause-ok : goal.returns-then-not-is_sig0-clause-ok
returns-then-not-is_sig0-clause-ok g c =
    let begins = c.in-Ok.ensures.ok in
    let last = subst (λ r. IfSome r (IsLastRecord c.in-Ok.section)) c.in-Ok-Some.field-0-is c.in-Ok-Some.ensures.some in
    inr (c.in-Ok-Some.record, (begins.0, begins.1, last_additional _ begins.0 c.in-Ok.section c.in-Ok-Some.record begins.2 last), λ is. true≢false (sym (c.is_sig0.ensures.1 is) ∙ c.if-not-is_sig0.true))

pub returns-in-Err-last_record-clause-err : goal.returns-in-Err-last_record-clause-err
returns-in-Err-last_record-clause-err g c =
    let begins = c.in-Ok.ensures.ok in
    inr (begins.0, begins.1, lacks_additional _ begins.0 c.in-Ok.section c.in-Err-last_record.e begins.2 c.in-Err-last_record.ensures.err)
