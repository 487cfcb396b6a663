use Rattle.std.proofs.Common.{ℕ, List, inl, inr, refl}
use Rattle.domain_tool.specs.Words.{AsksPlainly, AsksSomething, AsksWithin}
use Rattle.domain_tool.specs.declared.asked.Asked.{Asked}
use Rattle.domain_tool.specs.declared.asked.Asked.TheVariants.{At, Text, List as Lines}
use Rattle.domain_tool.proofs.asked.Asked.by.Goals as goal

nothing : (words : List (List ℕ)) → ((offset : ℕ) → (pointers : ℕ) → AsksWithin words offset pointers → ⊥) → ((asked : Asked) → AsksPlainly words asked → ⊥) → AsksSomething words → ⊥
nothing words limited plain (At offset pointers, inl asks) = plain (At offset pointers) asks
nothing words limited plain (At offset pointers, inr asks) = limited offset pointers asks
nothing words limited plain (Text text, asks) = plain (Text text) asks
nothing words limited plain (Lines, asks) = plain Lines asks

pub returns-in-None-clause-none : goal.returns-in-None-clause-none
returns-in-None-clause-none c = λ none. nothing _ (c.in-None.ensures.none refl) (c.plainly.ensures.none none)
