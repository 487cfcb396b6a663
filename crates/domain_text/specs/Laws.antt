-- Laws of the texts of names.
use Rattle.std.specs.Prelude.{◌<◌, ◌≤◌, ◌⊎◌, ◌↔◌, ℕ, List, Option}
use Rattle.std.specs.List.{AllByRecursion}
use Rattle.domain_label.specs.Text.{text_with_final_dot, displayed, text}
use Rattle.domain_label.specs.Wire.{IsAbsoluteName, IsRelativeName}
use Rattle.domain_label.specs.Spelling.{JustOne}
use Rattle.domain_text.specs.BuilderState.{BuilderState, empty_state, size, Makes, StopsAt}
use Rattle.domain_text.specs.TextGrammar.{IsTextSoFar, FirstFault, IsNameText, NotANameText, IsRelativeText, NoRelative, IsTextOfName, IsTextOfNoName, IsTextOfRelative, IsTextOfNoRelative}
use Rattle.domain_text.specs.declared.name_symbol.TextFault.{TextFault}
use Rattle.domain_text.specs.declared.name_symbol.NameSymbol.{NameSymbol}

-- A text is that of one name and has no fault, or has one fault and is that of no name.
abbrev pub OneName : List NameSymbol → Type 0
OneName ps =
    (JustOne (IsNameText ps) × ((f : TextFault) → NotANameText ps f → ⊥))
    ⊎ (JustOne (NotANameText ps) × ((ls : List (List ℕ)) → IsNameText ps ls → ⊥))

-- The same of relative names, where the fault None is a dot at the end.
abbrev pub OneRelative : List NameSymbol → Type 0
OneRelative ps =
    (JustOne (IsRelativeText ps) × ((why : Option TextFault) → NoRelative ps why → ⊥))
    ⊎ (JustOne (NoRelative ps) × ((ls : List (List ℕ)) → IsRelativeText ps ls → ⊥))

-- The same of characters: they are the text of one name and have no fault, or have one fault and are the
-- text of no name.
abbrev pub IsTextOfOneName : List ℕ → Type 0
IsTextOfOneName cs =
    (JustOne (IsTextOfName cs) × ((f : TextFault) → IsTextOfNoName cs f → ⊥))
    ⊎ (JustOne (IsTextOfNoName cs) × ((ls : List (List ℕ)) → IsTextOfName cs ls → ⊥))

-- The same of relative names.
abbrev pub IsTextOfOneRelative : List ℕ → Type 0
IsTextOfOneRelative cs =
    (JustOne (IsTextOfRelative cs) × ((why : Option TextFault) → IsTextOfNoRelative cs why → ⊥))
    ⊎ (JustOne (IsTextOfNoRelative cs) × ((ls : List (List ℕ)) → IsTextOfRelative cs ls → ⊥))

-- Parts one after another make of nothing what a text that begins with them has, and stop where it has
-- its first fault.
abbrev pub AppendsByGrammar : List NameSymbol → Type 0
AppendsByGrammar ps =
    ((b : BuilderState) → Makes empty_state ps b ↔ (IsTextSoFar ps b.labels b.open_label × (size b ≤ 254)))
    × ((f : TextFault) → ((b : BuilderState) × StopsAt empty_state ps b f) ↔ FirstFault ps f)

-- Each number is an octet.
abbrev pub AreBytes : List (List ℕ) → Type 0
AreBytes = AllByRecursion (AllByRecursion (λ c. c < 256))

-- The texts that a name shows, a dot after each label or between two, are read as that name.
abbrev pub ReadsShown : List (List ℕ) → Type 0
ReadsShown ls =
    AreBytes ls →
    (IsAbsoluteName ls → IsTextOfName (text_with_final_dot ls) ls × IsTextOfName (displayed ls) ls)
    × (IsRelativeName ls → IsTextOfRelative (text ls) ls)
