-- Symbols that were read already are given in turn.
use Rattle.std.proofs.Common.{◌≡◌, List, [], ◌∷◌, Option, Some, Result, Ok, Err, ap, map}
use Rattle.std.specs.Iterator.{AlwaysYields}
use Rattle.domain_label.specs.declared.symbol.Symbol.{Symbol}
use Rattle.domain_label.specs.declared.symbol.SymbolCharsError.{SymbolCharsError}
use Rattle.domain_text.specs.declared.whole.WholeSymbols.{WholeSymbols}
use Rattle.domain_text.specs.SymbolsInHand.{WholeSteps}

module _ {I : Type 0} (steps : I → Option Symbol → I → Type 0) where
  none_left : (s : WholeSymbols I) (x : Result Symbol SymbolCharsError) (t : WholeSymbols I) → AlwaysYields steps (λ x. x) s.symbols [] → WholeSteps steps s (Some x) t → ⊥
  none_left s (Ok x) t h step = h x t.symbols step
  none_left s (Err e) t h step = step

  next_whole : (y : Symbol) (ss : List Symbol) (s : WholeSymbols I) (x : Result Symbol SymbolCharsError) (t : WholeSymbols I) → AlwaysYields steps (λ x. x) s.symbols (y ∷ ss) → ((u : WholeSymbols I) → AlwaysYields steps (λ x. x) u.symbols ss → AlwaysYields (WholeSteps steps) (λ x. x) u (map Ok ss)) → WholeSteps steps s (Some x) t → (x ≡ Ok y) × AlwaysYields (WholeSteps steps) (λ x. x) t (map Ok ss)
  next_whole y ss s (Ok x) t h more step = let k = h.1 x t.symbols step in (ap Ok k.0, more t k.1)
  next_whole y ss s (Err e) t h more step = absurd step

  pub gives_whole : (ss : List Symbol) (s : WholeSymbols I) → AlwaysYields steps (λ x. x) s.symbols ss → AlwaysYields (WholeSteps steps) (λ x. x) s (map Ok ss)
  gives_whole [] s h = λ x t step. none_left s x t h step
  gives_whole (y ∷ ss) s h = (λ t step. h.0 t.symbols step, λ x t step. next_whole y ss s x t h (λ u k. gives_whole ss u k) step)
