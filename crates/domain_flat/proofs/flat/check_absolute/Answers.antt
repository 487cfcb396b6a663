use Rattle.std.proofs.Common.{[], arith, sym, subst, ◌∙◌}
use Rattle.std.proofs.lemmas.List.{append-nil}
use Rattle.domain_label.specs.Wire.{wire}
use Rattle.domain_flat.specs.Faults.{AbsoluteFault}
use Rattle.domain_flat.specs.declared.error.NameErrorKind.{NameErrorKind}
use Rattle.domain_flat.proofs.LabelsFromLeft.{fault_not_absolute, end_not_absolute, more_not_absolute, stops_one, stops_more}
use Rattle.domain_flat.proofs.flat.check_absolute.Goals as goal

pub returns-in_err-pass_labels-clause-exact : goal.returns-in_err-pass_labels-clause-exact
returns-in_err-pass_labels-clause-exact c = λ ls a e.
    let f = c.in_err-pass_labels.ensures.err in
    absurd (fault_not_absolute _ f.0 f.1 _ ls [] f.2 f.3 a.0 (e ∙ sym (append-nil (wire ls))))

pub returns-in-empty-clause-exact : goal.returns-in-empty-clause-exact
returns-in-empty-clause-exact c = λ ls a e.
    let s = c.in_ok-pass_labels.ensures.ok in
    absurd (end_not_absolute _ s.0.0 _ ls [] s.0.1 (omega (arith, c.in-empty.len_below)) a.0 (e ∙ sym (append-nil (wire ls))))

pub returns-in-empty-2-clause-exact : goal.returns-in-empty-2-clause-exact
returns-in-empty-2-clause-exact c = λ ls a e.
    let s = c.in_ok-pass_labels.ensures.ok in
    absurd (end_not_absolute _ s.0.0 _ ls [] s.0.1 (omega (arith, c.in-empty.len_below)) a.0 (e ∙ sym (append-nil (wire ls))))

pub returns-in-len1-clause-ok : goal.returns-in-len1-clause-ok
returns-in-len1-clause-ok c = stops_one _ _ c.in_ok-pass_labels.ensures.ok (omega (arith, c.in-len1.len_at_least, c.in-len1.len_below)) (omega (arith, c.if-octets-gt-MAX_NAME_LEN.false))

pub returns-in-len1-up-clause-err : goal.returns-in-len1-up-clause-err
returns-in-len1-up-clause-err c =
    let s = c.in_ok-pass_labels.ensures.ok in
    let t = stops_more _ _ s c.in-len1-up.len_at_least in
    let P : NameErrorKind → Type 0 = AbsoluteFault c.args.octets.now in
    subst P (sym c.new-in-len1-up.ensures) (omega (arith, c.if-octets-gt-MAX_NAME_LEN.false), (s.0.0, _, s.0.1, t))

pub returns-in-len1-up-clause-exact : goal.returns-in-len1-up-clause-exact
returns-in-len1-up-clause-exact c = λ ls a e.
    absurd (more_not_absolute _ _ ls c.in_ok-pass_labels.ensures.ok c.in-len1-up.len_at_least a.0 (e ∙ sym (append-nil (wire ls))))
