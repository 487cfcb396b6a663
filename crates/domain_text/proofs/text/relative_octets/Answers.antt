use Rattle.std.proofs.Common.{ℕ, List, ◌++◌, sym, subst, ap, ◌∙◌}
use Rattle.domain_label.specs.Wire.{wire}
use Rattle.domain_text.specs.BuilderState.{closed}
use Rattle.domain_text.specs.TextGrammar.{IsRelativeText}
use Rattle.domain_text.proofs.Buffering.{relative_made, labels_made}
use Rattle.domain_text.proofs.text.relative_octets.Goals as goal

pub returns-in-Ok-append_relative-clause-wire : goal.returns-in-Ok-append_relative-clause-wire
returns-in-Ok-append_relative-clause-wire g c =
    let ls : List (List ℕ) = closed c.args.buffer.now in
    relative_made _ ls c.append_relative.ensures.name (c.from_builder.ensures ∙ c.in-Ok-append_relative.ensures.ok ∙ ap (λ (z : List ℕ). z ++ wire ls) c.in-Ok-with_capacity.ensures.octets)

pub returns-in-Ok-append_relative-clause-text : goal.returns-in-Ok-append_relative-clause-text
returns-in-Ok-append_relative-clause-text g c = λ ps h.
    let ls : List (List ℕ) = closed c.args.buffer.now in
    subst (λ (z : List (List ℕ)). IsRelativeText ps z) (sym (labels_made _ ls (c.from_builder.ensures ∙ c.in-Ok-append_relative.ensures.ok ∙ ap (λ (z : List ℕ). z ++ wire ls) c.in-Ok-with_capacity.ensures.octets))) (rw c.in-Ok.is at h)
