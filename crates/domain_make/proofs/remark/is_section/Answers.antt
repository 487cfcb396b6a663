use Rattle.std.proofs.Common.{sym, ◌∙◌, refl, inl, inr}
use Rattle.std.proofs.lemmas.Bool.{false≢true}
use Rattle.domain_make.proofs.Marking.{section_is, section_ends}
use Rattle.domain_make.proofs.remark.is_section.Goals as goal

pub returns-then-ends_in : goal.returns-then-ends_in
returns-then-ends_in c = (λ _. section_is c.args.line.now (inl (c.ends_in.ensures.0 c.if-ends_in.true)), λ _. refl)

pub returns : goal.returns
returns c = (
  λ t. section_is c.args.line.now (inr (c.ends_in-2.ensures.0 t)),
  λ w. elim (section_ends c.args.line.now w) [ inl h ↦ absurd (false≢true (sym c.if-ends_in.false ∙ c.ends_in.ensures.1 h)) | inr h ↦ c.ends_in-2.ensures.1 h ],
)
