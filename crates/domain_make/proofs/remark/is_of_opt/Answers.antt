use Rattle.std.proofs.Common.{refl, inl, inr}
use Rattle.std.proofs.lemmas.Bool.{false≢true}
use Rattle.domain_make.proofs.remark.is_of_opt.Goals as goal

pub returns-in-Some : goal.returns-in-Some
returns-in-Some c = (λ _. (_, inl c.in-Some.ensures), λ _. refl)

pub returns-in-Some-after : goal.returns-in-Some-after
returns-in-Some-after c = (λ _. (_, inr (inl c.in-Some-after.ensures)), λ _. refl)

pub returns-in-Some-after-2 : goal.returns-in-Some-after-2
returns-in-Some-after-2 c = (λ _. (_, inr (inr c.in-Some-after-2.ensures)), λ _. refl)

pub returns : goal.returns
returns c = (
  λ t. absurd (false≢true t),
  λ w. absurd (elim w.1 [ inl e ↦ c.in_default.ensures w.0 e | inr other ↦ elim other [ inl e ↦ c.in_default-after.ensures w.0 e | inr e ↦ c.in_default-after-2.ensures w.0 e ] ]),
)
