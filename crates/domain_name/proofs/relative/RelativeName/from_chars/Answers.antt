use Rattle.std.proofs.Common.{ℕ, List, ap, sym, subst, ◌∙◌}
use Rattle.domain_label.specs.Wire.{labels_in}
use Rattle.domain_builder.specs.TextGrammar.{IsTextOfRelative}
use Rattle.domain_name.proofs.relative.RelativeName.from_chars.Goals as goal

pub returns-in-Ok-clause-ok : goal.returns-in-Ok-clause-ok
returns-in-Ok-clause-ok g c = λ cs h. subst (λ (ls : List (List ℕ)). IsTextOfRelative cs ls) (sym (ap (λ o. labels_in (g.Octs.Octets.octets o)) c.from_wire.ensures)) (c.in-Ok.ensures.text cs h).ok

pub returns-in-Ok-clause-accepts : goal.returns-in-Ok-clause-accepts
returns-in-Ok-clause-accepts g c = λ cs ls h s. ap (λ o. labels_in (g.Octs.Octets.octets o)) c.from_wire.ensures ∙ (c.in-Ok.ensures.text cs h).accepts ls s

pub returns-in-Ok-clause-exact : goal.returns-in-Ok-clause-exact
returns-in-Ok-clause-exact g c = λ cs f h s. (c.in-Ok.ensures.text cs h).exact f s

pub returns-in-Err-clause-accepts : goal.returns-in-Err-clause-accepts
returns-in-Err-clause-accepts g c = λ cs ls h s. (c.in-Err.ensures.text cs h).accepts ls s

pub returns-in-Err-clause-exact : goal.returns-in-Err-clause-exact
returns-in-Err-clause-exact g c = λ cs f h s. (c.in-Err.ensures.text cs h).exact f s
