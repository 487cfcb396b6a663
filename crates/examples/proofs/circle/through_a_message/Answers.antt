use Rattle.std.proofs.Common.{ℕ, List, sym, subst, ◌∙◌}
use Rattle.domain_builder.specs.TextGrammar.{IsTextOfName}
use Rattle.examples.proofs.circle.through_a_message.Goals as goal

pub returns-in-Ok-clause-shown : goal.returns-in-Ok-clause-shown
returns-in-Ok-clause-shown c = λ ls absolute bytes same.
    let shown = c.text_laws.ensures.shown ls bytes in
    let spells = subst (λ (cs : List ℕ). IsTextOfName cs ls) (sym same) (shown.0 absolute).0 in
    c.put_and_read.ensures ∙ c.in-Ok.ensures.value.accepts ls spells
