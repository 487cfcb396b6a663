use Rattle.std.proofs.Common.{inl, inr}
use Rattle.domain_message.proofs.Sections.{no_records}
use Rattle.domain_message.proofs.message.Message.authority.Goals as goal

pub returns-in-Err-clause-err : goal.returns-in-Err-clause-err
returns-in-Err-clause-err g c = inl c.in-Err.ensures.err

pub returns-in-Err-next_section-clause-err : goal.returns-in-Err-next_section-clause-err
returns-in-Err-next_section-clause-err g c =
    let after = c.in-Ok.ensures.ok in
    inr (after.0, after.1, no_records _ _ _ _ _ after.2 c.in-Err-next_section.ensures.err)
