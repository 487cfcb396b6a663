use Rattle.std.proofs.Common.{ℕ, List, [], ◌∷◌, ap, arith, sym, subst}
use Rattle.domain_label.specs.Scanning.{GivesEscape}
use Rattle.domain_label.proofs.Scanning.{given_some, given_none}
use Rattle.domain_label.proofs.escape.escape.Goals as goal

pub returns-in-None-clause-escape : goal.returns-in-None-clause-escape
returns-in-None-clause-escape g c = λ cs h. ([], ap (λ (x : List ℕ). 92 ∷ x) (given_none g.I.Iterator.next_gives _ _ cs h c.in-None.ensures.steps), omega arith, tt)

pub returns-in-Some-clause-escape : goal.returns-in-Some-clause-escape
returns-in-Some-clause-escape g c = λ cs h.
    let n = given_some g.I.Iterator.next_gives _ _ _ cs h c.in-Some.ensures.steps in
    subst (λ (x : List ℕ). GivesEscape g.I.Iterator.next_gives x c.escape_at.result c.escape_at.new.chars) (sym n.1) (c.escape_at.ensures.escape n.0 n.2)
