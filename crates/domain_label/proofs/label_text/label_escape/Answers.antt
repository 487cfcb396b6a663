use Rattle.std.proofs.Common.{ℕ, List, ◌∷◌, inr, ap}
use Rattle.domain_label.proofs.LabelReading.{cut_in_label, escape_in_label}
use Rattle.domain_label.proofs.Scanning.{given_some, given_none}
use Rattle.domain_label.proofs.label_text.label_escape.Goals as goal

pub returns-in-None-clause-escape : goal.returns-in-None-clause-escape
returns-in-None-clause-escape g c = λ cs h. cut_in_label cs (given_none g.I.Iterator.next_gives _ _ cs h c.in-None.ensures.steps)

pub returns-then-is_ascii_control-clause-escape : goal.returns-then-is_ascii_control-clause-escape
returns-then-is_ascii_control-clause-escape g c = λ cs h.
    let n = given_some g.I.Iterator.next_gives _ _ _ cs h c.in-Some.ensures.steps in
    (inr c.if-is_ascii_control.ensures.cases, (n.0, ap (λ (x : List ℕ). 92 ∷ x) n.1, n.2))

pub returns-clause-escape : goal.returns-clause-escape
returns-clause-escape g c = λ cs h.
    let n = given_some g.I.Iterator.next_gives _ _ _ cs h c.in-Some.ensures.steps in
    escape_in_label g.I.Iterator.next_gives c.escape_at.new.chars c.in-Some.first cs n.0 c.escape_at.result n.1 c.if-is_ascii_control.ensures.cases (c.escape_at.ensures.escape n.0 n.2)
