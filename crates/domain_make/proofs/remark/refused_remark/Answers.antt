use Rattle.std.proofs.Common.{sym, ◌∙◌, refl, inl, inr}
use Rattle.std.proofs.lemmas.Bool.{false≢true}
use Rattle.domain_make.proofs.remark.refused_remark.Goals as goal

pub returns-then-is_section-clause-some : goal.returns-then-is_section-clause-some
returns-then-is_section-clause-some c = inl (c.is_section.ensures.0 c.if-is_section.true, refl)

pub returns-then-is_of_opt-clause-some : goal.returns-then-is_of_opt-clause-some
returns-then-is_of_opt-clause-some c = inr (λ h. false≢true (sym c.if-is_section.false ∙ c.is_section.ensures.1 h), c.is_of_opt.ensures.0 c.if-is_of_opt.true, refl)

pub returns-clause-none : goal.returns-clause-none
returns-clause-none c = λ _. (λ h. false≢true (sym c.if-is_section.false ∙ c.is_section.ensures.1 h), λ h. false≢true (sym c.if-is_of_opt.false ∙ c.is_of_opt.ensures.1 h))
