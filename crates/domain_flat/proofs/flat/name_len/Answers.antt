use Rattle.std.proofs.Common.{◌≡◌, ◌≤◌, length, arith}
use Rattle.domain_flat.proofs.LabelsFromLeft.{fault_not_absolute, end_not_absolute, name_of, name_not_long}
use Rattle.domain_flat.proofs.flat.name_len.Goals as goal

pub returns-in_err-rest-clause-exact : goal.returns-in_err-rest-clause-exact
returns-in_err-rest-clause-exact c = λ ls tail a e.
    let f = c.in_err-rest.ensures.err in
    absurd (fault_not_absolute _ f.0 f.1 _ ls tail f.2 f.3 a.0 e)

pub returns-then-is_empty-clause-exact : goal.returns-then-is_empty-clause-exact
returns-then-is_empty-clause-exact c = λ ls tail a e.
    let s = c.in_ok-rest.ensures.ok in
    let none : length c.in_ok-rest.rest.now ≡ 0 = grind arith in
    absurd (end_not_absolute _ s.0.0 _ ls tail s.0.1 none a.0 e)

pub returns-then-len-gt-MAX_NAME_LEN-clause-exact : goal.returns-then-len-gt-MAX_NAME_LEN-clause-exact
returns-then-len-gt-MAX_NAME_LEN-clause-exact c = λ ls tail a e.
    let some : 1 ≤ length c.in_ok-rest.rest.now = grind arith in
    absurd (name_not_long _ _ ls tail c.in_ok-rest.ensures.ok some c.if-len-gt-MAX_NAME_LEN.true a e)

pub returns-clause-ok : goal.returns-clause-ok
returns-clause-ok c =
    let some : 1 ≤ length c.in_ok-rest.rest.now = grind arith in
    name_of _ _ c.in_ok-rest.ensures.ok some c.if-len-gt-MAX_NAME_LEN.false
