use Rattle.domain_label.proofs.Scanning.{given_some, given_none}
use Rattle.domain_label.proofs.escape.next_digit.Goals as goal

pub returns-in-None-clause-digit : goal.returns-in-None-clause-digit
returns-in-None-clause-digit g c = λ cs h. given_none g.I.Iterator.next_gives _ _ cs h c.in-None.ensures.steps

pub returns-then-is_ascii_digit-clause-digit : goal.returns-then-is_ascii_digit-clause-digit
returns-then-is_ascii_digit-clause-digit g c = λ cs h.
    let n = given_some g.I.Iterator.next_gives _ _ _ cs h c.in-Some.ensures.steps in
    (c.if-is_ascii_digit.ensures.cases, (n.0, n.1, n.2))

pub returns-else-is_ascii_digit-clause-digit : goal.returns-else-is_ascii_digit-clause-digit
returns-else-is_ascii_digit-clause-digit g c = λ cs h.
    let n = given_some g.I.Iterator.next_gives _ _ _ cs h c.in-Some.ensures.steps in
    (c.in-Some.c, n.0, n.1, c.if-is_ascii_digit.ensures.cases)
