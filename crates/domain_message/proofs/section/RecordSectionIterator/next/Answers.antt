use Rattle.std.proofs.Common.{◌≡◌, refl, arith, ap, ◌-◌, ◌+◌, ◌∙◌}
use Rattle.std.specs.Prelude.{Ok}
use Rattle.octseq.specs.Parsing.{message, position}
use Rattle.domain_message.proofs.section.RecordSectionIterator.next.Goals as goal

pub returns-in-Err-parse-clause-steps : goal.returns-in-Err-parse-clause-steps
returns-in-Err-parse-clause-steps c =
    let same = c.in-Err-parse.ensures.unchanged in
    let some : c.in-Ok.count ≡ c.in-Ok.count - 1 + 1 = omega (arith, c.if-count-eq0.false) in
    (ap (λ p. message p) same, refl, (c.in-Ok.count - 1, c.in-Ok.is ∙ ap (λ n. Ok n) some, refl, ap (λ p. position p) same, c.in-Err-parse.ensures.err))
