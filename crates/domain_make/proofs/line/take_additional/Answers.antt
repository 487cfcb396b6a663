use Rattle.std.proofs.Common.{refl}
use Rattle.domain_message.specs.declared.section.Section.TheVariants.{Additional}
use Rattle.domain_make.proofs.Drafting.{opt_ok, there_ok}
use Rattle.domain_make.proofs.Refusing.{among_no_opt, no_first_line, refuses_opt, remark_there, there_err}
use Rattle.domain_make.proofs.Telling.{if_err}
use Rattle.domain_make.proofs.line.take_additional.Goals as goal

pub returns-in-Some-clause-ok : goal.returns-in-Some-clause-ok
returns-in-Some-clause-ok g c = opt_ok _ _ _ _ _ _ _ _ _ c.requires.place c.trimmed.ensures c.in-Some.ensures.some c.take_opt.ensures.code c.take_opt.ensures.stage c.take_opt.ensures.ok

pub returns-in-Some-clause-err : goal.returns-in-Some-clause-err
returns-in-Some-clause-err g c = if_err _ _ _ (λ f k lack. refuses_opt _ _ _ _ _ _ _ f k c.requires.place c.trimmed.ensures c.in-Some.ensures.some lack) c.take_opt.ensures.err

pub take_below-requires-clause-no_edns : goal.take_below-requires-clause-no_edns
take_below-requires-clause-no_edns g c = no_first_line _ _ c.trimmed.ensures (c.in_default.ensures.none refl)

pub returns-in-Options-clause-ok : goal.returns-in-Options-clause-ok
returns-in-Options-clause-ok g c = there_ok _ _ _ _ _ _ _ _ c.in-Options.is c.take_below.ensures.ok

pub returns-in-Options-clause-err : goal.returns-in-Options-clause-err
returns-in-Options-clause-err g c = there_err _ _ _ _ _ _ _ c.in-Options.is c.take_below.ensures.err

pub take_remark-requires : goal.take_remark-requires
take_remark-requires g c = record {
  remark = remark_there _ _ Additional c.requires.begins c.requires.place;
  no_opt = λ text end. among_no_opt _ text _ (no_first_line _ _ c.trimmed.ensures (c.in_default.ensures.none refl)) c.in_default-stage.not-Options end;
}

pub returns : goal.returns
returns g c = record { ok = there_ok _ _ _ _ _ _ _ _ refl c.take_remark.ensures.ok; err = there_err _ _ _ _ _ _ _ refl c.take_remark.ensures.err }
