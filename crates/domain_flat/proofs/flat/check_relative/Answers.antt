use Rattle.std.proofs.Common.{arith}
use Rattle.domain_flat.proofs.LabelsFromLeft.{fault_not_relative, root_not_relative, stops_none}
use Rattle.domain_flat.proofs.flat.check_relative.Goals as goal

pub returns-in_err-pass_labels-clause-exact : goal.returns-in_err-pass_labels-clause-exact
returns-in_err-pass_labels-clause-exact c = λ ls a e.
    let f = c.in_err-pass_labels.ensures.err in
    absurd (fault_not_relative _ f.0 f.1 _ ls f.2 f.3 f.4 a.0 e)

pub returns-in-empty-clause-ok : goal.returns-in-empty-clause-ok
returns-in-empty-clause-ok c = stops_none _ _ c.in_ok-pass_labels.ensures.ok (omega (arith, c.in-empty.len_below)) (omega (arith, c.if-octets-gt-MAX_RELATIVE_LEN.false))

pub returns-in-len1-up-clause-exact : goal.returns-in-len1-up-clause-exact
returns-in-len1-up-clause-exact c = λ ls a e. absurd (root_not_relative _ _ ls c.in_ok-pass_labels.ensures.ok (omega (arith, c.in-len1-up.len_at_least)) a.0 e)
