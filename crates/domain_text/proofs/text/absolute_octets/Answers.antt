use Rattle.std.proofs.Common.{ℕ, List, ◌++◌, sym, subst, ap, ◌∙◌}
use Rattle.domain_label.specs.Wire.{wire, Root}
use Rattle.domain_text.specs.BuilderState.{closed}
use Rattle.domain_text.specs.TextGrammar.{IsNameText}
use Rattle.domain_text.proofs.Buffering.{absolute_made, labels_made}
use Rattle.domain_text.proofs.text.absolute_octets.Goals as goal

pub returns-in-Ok-clause-wire : goal.returns-in-Ok-clause-wire
returns-in-Ok-clause-wire g c =
    let ls : List (List ℕ) = closed c.args.buffer.now ++ Root in
    absolute_made _ ls c.append_name.ensures.name (c.from_builder.ensures ∙ c.in-Ok.ensures.ok ∙ ap (λ (z : List ℕ). z ++ wire ls) c.in_ok-target.ensures.octets)

pub returns-in-Ok-clause-text : goal.returns-in-Ok-clause-text
returns-in-Ok-clause-text g c = λ ps h.
    let ls : List (List ℕ) = closed c.args.buffer.now ++ Root in
    subst (λ (z : List (List ℕ)). IsNameText ps z) (sym (labels_made _ ls (c.from_builder.ensures ∙ c.in-Ok.ensures.ok ∙ ap (λ (z : List ℕ). z ++ wire ls) c.in_ok-target.ensures.octets))) (rw c.in_ok-read.was at h)
