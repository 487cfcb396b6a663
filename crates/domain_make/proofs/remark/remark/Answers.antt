use Rattle.std.proofs.Common.{refl, sym, subst, ◌∙◌}
use Rattle.std.proofs.lemmas.Bool.{false≢true}
use Rattle.domain_make.specs.Refusals.NoRemark.{late_codes, late_flags}
use Rattle.domain_make.specs.Remarks.{Remarks}
use Rattle.domain_make.specs.Remarks.Remarks.{codes_told, flags_told, heading, comment}
use Rattle.domain_make.proofs.Marking.{codes_refused, flags_refused, other_refused}
use Rattle.domain_make.proofs.Telling.{passed_on}
use Rattle.domain_make.proofs.remark.remark.Goals as goal

pub returns-then-not-before_codes-clause-err : goal.returns-then-not-before_codes-clause-err
returns-then-not-before_codes-clause-err c = (late_codes c.in-Some.text.now c.in-Some.ensures (λ e. false≢true (sym c.if-not-before_codes.true ∙ c.before_codes.ensures.1 e)) refl, refl)

pub returns-in_err-told-clause-err : goal.returns-in_err-told-clause-err
returns-in_err-told-clause-err c = passed_on _ _ _ c.from_residual.ensures.1 (codes_refused c.args.line.now c.in-Some.text.now c.args.stage _ c.in-Some.ensures (c.before_codes.ensures.0 c.if-not-before_codes.false) c.in_err-told.ensures.err)

pub returns-in-Some-clause-ok : goal.returns-in-Some-clause-ok
returns-in-Some-clause-ok c = codes_told c.in-Some.text.now _ _ _ (c.before_codes.ensures.0 c.if-not-before_codes.false) c.in-Some.ensures c.in_ok-told.ensures.ok c.with_codes.ensures

pub returns-then-not-before_flags-clause-err : goal.returns-then-not-before_flags-clause-err
returns-then-not-before_flags-clause-err c = (late_flags c.in-Some-after.text.now c.in-Some-after.ensures (λ e. false≢true (sym c.if-not-before_flags.true ∙ c.before_flags.ensures.1 e)) refl, refl)

pub returns-in_err-flags-clause-err : goal.returns-in_err-flags-clause-err
returns-in_err-flags-clause-err c = passed_on _ _ _ c.from_residual-in_err-flags.ensures.1 (flags_refused c.args.line.now c.in-Some-after.text.now c.args.stage _ c.in-Some-after.ensures (c.before_flags.ensures.0 c.if-not-before_flags.false) c.in_err-flags.ensures.err)

pub returns-in-Some-after-clause-ok : goal.returns-in-Some-after-clause-ok
returns-in-Some-after-clause-ok c = flags_told c.in-Some-after.text.now _ (c.before_flags.ensures.0 c.if-not-before_flags.false) c.in-Some-after.ensures c.in_ok-flags.ensures.ok c.with_flags.ensures

pub returns-in-Some-heading-clause-ok : goal.returns-in-Some-heading-clause-ok
returns-in-Some-heading-clause-ok c = heading c.in-Some-heading.ensures.some

pub returns-in-Some-refused_remark-clause-err : goal.returns-in-Some-refused_remark-clause-err
returns-in-Some-refused_remark-clause-err c = (
  other_refused _ _ _ (record {
    no_codes = c.in_default.ensures;
    no_flags = c.in_default-after.ensures;
    no_heading = c.in_default-heading.ensures.none refl;
  }) c.in-Some-refused_remark.ensures.some,
  refl,
)

pub returns-clause-ok : goal.returns-clause-ok
returns-clause-ok c = subst (λ n. Remarks c.args.line.now c.args.stage c.args.header n c.args.header) (sym c.settled.ensures) (comment (record {
  no_codes = c.in_default.ensures;
  no_flags = c.in_default-after.ensures;
  no_heading = c.in_default-heading.ensures.none refl;
  no_section = (c.in_default-refused_remark.ensures.none refl).0;
  no_opt = (c.in_default-refused_remark.ensures.none refl).1;
}))
