use Rattle.std.proofs.Common.{ℕ, ◌<◌, [], ◌∷◌, refl, subst}
use Rattle.std.proofs.lemmas.Result.{err_from_is_err_and}
use Rattle.domain_label.specs.Spelling.{number}
use Rattle.domain_label.proofs.Scanning.{second_broken, third_broken, too_large, decimal}
use Rattle.domain_label.proofs.escape.escape_at.Goals as goal

pub returns-then-is_printable-clause-escape : goal.returns-then-is_printable-clause-escape
returns-then-is_printable-clause-escape g c = λ cs h.
    ((c.if-is_printable.ensures, c.if-not-is_ascii_digit.ensures.cases), (cs, refl, h))

pub returns-then-not-is_ascii_digit-clause-escape : goal.returns-then-not-is_ascii_digit-clause-escape
returns-then-not-is_ascii_digit-clause-escape g c = λ cs h.
    ([], c.args.first, cs, refl, tt, (c.if-not-is_ascii_digit.ensures.cases, c.if-is_printable.ensures))

pub returns-in_err-second-clause-escape : goal.returns-in_err-second-clause-escape
returns-in_err-second-clause-escape g c = λ cs h.
    let p = err_from_is_err_and c.from_residual.result c.from_residual.ensures.1 in
    rw (p.1, p.2) (second_broken c.args.first (c.args.first ∷ cs) cs _ g.I.Iterator.next_gives _ refl c.if-not-is_ascii_digit.ensures.cases (c.in_err-second.ensures.digit cs h))

pub returns-in_err-third-clause-escape : goal.returns-in_err-third-clause-escape
returns-in_err-third-clause-escape g c = λ cs h.
    let m = c.in_ok-second.ensures.digit cs h in
    let p = err_from_is_err_and c.from_residual-in_err-third.result c.from_residual-in_err-third.ensures.1 in
    rw (p.1, p.2) (third_broken c.args.first c.in_ok-second.second (c.args.first ∷ cs) cs m.1.0 _ g.I.Iterator.next_gives _ refl m.1.1 c.if-not-is_ascii_digit.ensures.cases m.0 (c.in_err-third.ensures.digit m.1.0 m.1.2))

pub returns-then-value-gt255-clause-escape : goal.returns-then-value-gt255-clause-escape
returns-then-value-gt255-clause-escape g c = λ cs h.
    let m = c.in_ok-second.ensures.digit cs h in
    let l = c.in_ok-third.ensures.digit m.1.0 m.1.2 in
    let over : 255 < number c.args.first c.in_ok-second.second c.in_ok-third.third = subst (λ (v : ℕ). 255 < v) c.value_of-value.ensures c.if-value-gt255.true in
    too_large c.args.first c.in_ok-second.second c.in_ok-third.third (c.args.first ∷ cs) cs m.1.0 l.1.0 refl m.1.1 l.1.1 c.if-not-is_ascii_digit.ensures.cases m.0 l.0 over

pub returns-clause-escape : goal.returns-clause-escape
returns-clause-escape g c = λ cs h.
    let m = c.in_ok-second.ensures.digit cs h in
    let l = c.in_ok-third.ensures.digit m.1.0 m.1.2 in
    (c.if-value-gt255.false, (l.1.0, decimal c.args.first c.in_ok-second.second c.in_ok-third.third c.value_of-value.result (c.args.first ∷ cs) cs m.1.0 l.1.0 refl m.1.1 l.1.1 c.if-not-is_ascii_digit.ensures.cases m.0 l.0 c.value_of-value.ensures, l.1.2))
