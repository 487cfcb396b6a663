use Rattle.std.proofs.Common.{◌≡◌, ℕ, List, [], ◌∷◌, length, Some, None, Err, false, nat_lt, refl, sym, ap, ◌∙◌, arith}
use Rattle.std.proofs.lemmas.Bool.{ltb-false}
use Rattle.domain_text.specs.BuilderState.{BuilderState, unless_open}
use Rattle.domain_builder.specs.Pushing.{TakesSymbol}
use Rattle.domain_text.specs.TextErrors.{MatchFromStr}
use Rattle.domain_text.specs.declared.error.FromStrError.{FromStrError}
use Rattle.domain_text.specs.declared.error.FromStrError.TheVariants.{Presentation, ShortBuf}
use Rattle.domain_text.specs.declared.name_symbol.TextFault.TheVariants.{EmptyLabel}
use Rattle.domain_text.specs.declared.name_symbol.NameSymbol.TheVariants.{Dot}
use Rattle.domain_builder.proofs.labels.LabelsBuilder.push_name_symbol.Goals as goal

none_open : (o : List ℕ) → nat_lt 0 (length o) ≡ false → unless_open o (Some EmptyLabel) None ≡ Some EmptyLabel
none_open [] closed = refl
none_open (c ∷ o) closed = absurd (omega (arith, ltb-false 0 (length (c ∷ o)) closed))

dot_refused : (room : ℕ) (b : BuilderState) (e : FromStrError) → nat_lt 0 (length b.open_label) ≡ false → MatchFromStr e (λ f. f ≡ EmptyLabel) ⊥ → TakesSymbol room b Dot (Err e) b
dot_refused room b (Presentation p) closed told = (refl, none_open b.open_label closed ∙ ap Some (sym told))
dot_refused room b ShortBuf closed told = absurd told

pub returns-then-not-in_label-clause-takes : goal.returns-then-not-in_label-clause-takes
returns-then-not-in_label-clause-takes g c =
    rw c.in-Dot.is (dot_refused _ _ _ (sym c.in_label.ensures ∙ c.if-not-in_label.true) c.into.ensures)
