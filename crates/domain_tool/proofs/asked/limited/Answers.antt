use Rattle.std.proofs.Common.{◌≡◌, ℕ, List, [], ◌∷◌, map, slice_index_or, Bor, refl, sym, subst}
use Rattle.domain_tool.specs.Numerals.{IsLimitWord}
use Rattle.domain_tool.proofs.asked.limited.Goals as goal

-- the fourth of four words
fourth : (ws : List (Bor (List ℕ))) (d : Bor (List ℕ)) (a b c e : List ℕ) → map (λ (word : Bor (List ℕ)). word.now) ws ≡ a ∷ b ∷ c ∷ e ∷ [] → (slice_index_or ws 3 d).now ≡ e
fourth [] d a b c e h = cc
fourth (w ∷ []) d a b c e h = cc
fourth (w ∷ x ∷ []) d a b c e h = cc
fourth (w ∷ x ∷ y ∷ []) d a b c e h = cc
fourth (w ∷ x ∷ y ∷ z ∷ ws) d a b c e h = cc

pub returns-in-None-pointers_of-clause-none : goal.returns-in-None-pointers_of-clause-none
returns-in-None-pointers_of-clause-none c = λ none offset pointers asks.
    c.in-None-pointers_of.ensures.none refl pointers (subst (λ (w : List ℕ). IsLimitWord w pointers) (sym (fourth c.args.words.now _ _ _ _ _ asks.four)) asks.limits)
