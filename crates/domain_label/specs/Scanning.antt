-- What an iterator over the symbols of a text gives.
use Rattle.std.specs.Prelude.{◌≡◌, ℕ, Bool, true, false, List, [], ◌∷◌, ◌++◌, Option, Some, None, Result, Ok, Err}
use Rattle.std.specs.Iterator.{AlwaysYields, IsFinite, Count, count_unless}
use Rattle.domain_label.specs.declared.symbol.Symbol.{Symbol}
use Rattle.domain_label.specs.declared.symbol.SymbolCharsError.{SymbolCharsError}
use Rattle.domain_label.specs.declared.symbols.Symbols.{Symbols}
use Rattle.domain_label.specs.declared.symbol.SymbolCharsError.TheVariants.{ShortInput, BadEscape}
use Rattle.domain_label.specs.Spelling.{spelling, HasSpelling, IsBroken, IsDigit, IsNoDigit, ReadsSymbols}
use Rattle.domain_label.specs.LabelText.{IsLabelSymbol, IsBrokenInLabel, BeginsWithOctet, NoOctet}
use Rattle.domain_label.specs.declared.label_text.LabelFromStrErrorKind.{LabelFromStrErrorKind}

-- whether the text is read to its end
abbrev pub is_done : {I : Type 0} → Symbols I → Bool
is_done s = s.done

-- the source of characters
abbrev pub chars_of : {I : Type 0} → Symbols I → I
chars_of s = s.chars

-- What a call gives where the characters cs are left, and whether the text is done.
abbrev pub GivesSymbol : {I : Type 0} → (I → Option ℕ → I → Type 0) → List ℕ → Option (Result Symbol SymbolCharsError) → I → Bool → Type 0
GivesSymbol steps cs None left done = (cs ≡ []) × (done ≡ true)
GivesSymbol steps cs (Some (Err e)) left done = IsBroken cs e × (done ≡ true)
GivesSymbol steps cs (Some (Ok s)) left done = HasSpelling s × (done ≡ false) × ((rest : List ℕ) × (cs ≡ spelling s ++ rest) × AlwaysYields steps (λ c. c) left rest)

-- A call gives what the remaining characters start with, and nothing once the text is done.
pub record SymbolSteps {I : Type 0} (steps : I → Option ℕ → I → Type 0) (s : Symbols I) (r : Option (Result Symbol SymbolCharsError)) (t : Symbols I) : Type 0 where
  pub over : s.done ≡ true → (r ≡ None) × (t.done ≡ true)
  pub on : s.done ≡ false → (cs : List ℕ) → AlwaysYields steps (λ c. c) s.chars cs → GivesSymbol steps cs r t.chars t.done

-- Whatever the characters are and are read as, that is what the symbols give.
abbrev pub YieldsSymbols : {I : Type 0} → (I → Option ℕ → I → Type 0) → I → Symbols I → Type 0
YieldsSymbols steps chars s =
    (cs : List ℕ) (items : List (Result Symbol SymbolCharsError)) → AlwaysYields steps (λ c. c) chars cs → ReadsSymbols cs items
    → AlwaysYields (SymbolSteps steps) (λ x. x) s items

-- how many calls of the source the symbols still take, by how many it still takes
abbrev pub calls_left : {I : Type 0} → (I → Count) → Symbols I → Count
calls_left left s = count_unless (is_done s) (left (chars_of s))

-- The source may be called, and ends.
abbrev pub CanScan : {I : Type 0} → (I → Type 0) → (I → Count) → Symbols I → Type 0
CanScan can left s = s.done ≡ false → can s.chars × IsFinite (left s.chars)

-- What was read of an escape, and what is left.
abbrev pub GivesEscape : {I : Type 0} → (I → Option ℕ → I → Type 0) → List ℕ → Result Symbol SymbolCharsError → I → Type 0
GivesEscape steps cs (Err e) left = IsBroken (92 ∷ cs) e
GivesEscape steps cs (Ok s) left = HasSpelling s × ((rest : List ℕ) × (92 ∷ cs ≡ spelling s ++ rest) × AlwaysYields steps (λ c. c) left rest)

-- The same, whatever the characters are: what is read of an escape of which these are read, and what is left.
abbrev pub ReadsEscape : {I : Type 0} → (I → Option ℕ → I → Type 0) → List ℕ → I → Result Symbol SymbolCharsError → I → Type 0
ReadsEscape steps read chars r left =
    (cs : List ℕ) → AlwaysYields steps (λ c. c) chars cs → GivesEscape steps (read ++ cs) r left

-- What was read of a digit that continues an escape, and what is left.
abbrev pub GivesDigit : {I : Type 0} → (I → Option ℕ → I → Type 0) → List ℕ → Result ℕ SymbolCharsError → I → Type 0
GivesDigit steps cs (Err ShortInput) left = cs ≡ []
GivesDigit steps cs (Err BadEscape) left = (c : ℕ) × (rest : List ℕ) × (cs ≡ c ∷ rest) × IsNoDigit c
GivesDigit steps cs (Ok d) left = IsDigit d × ((rest : List ℕ) × (cs ≡ d ∷ rest) × AlwaysYields steps (λ c. c) left rest)

-- The same, whatever the characters are.
abbrev pub ReadsDigit : {I : Type 0} → (I → Option ℕ → I → Type 0) → I → Result ℕ SymbolCharsError → I → Type 0
ReadsDigit steps chars r left =
    (cs : List ℕ) → AlwaysYields steps (λ c. c) chars cs → GivesDigit steps cs r left

-- What was read of an escape in the text of a label, and what is left.
abbrev pub GivesLabelEscape : {I : Type 0} → (I → Option ℕ → I → Type 0) → List ℕ → Result Symbol SymbolCharsError → I → Type 0
GivesLabelEscape steps cs (Err e) left = IsBrokenInLabel (92 ∷ cs) e
GivesLabelEscape steps cs (Ok s) left = IsLabelSymbol s × ((rest : List ℕ) × (92 ∷ cs ≡ spelling s ++ rest) × AlwaysYields steps (λ c. c) left rest)

-- The same, whatever the characters are.
abbrev pub ReadsLabelEscape : {I : Type 0} → (I → Option ℕ → I → Type 0) → I → Result Symbol SymbolCharsError → I → Type 0
ReadsLabelEscape steps chars r left =
    (cs : List ℕ) → AlwaysYields steps (λ c. c) chars cs → GivesLabelEscape steps cs r left

-- What was read of the octet that a text begins with, and what is left.
abbrev pub GivesOctet : {I : Type 0} → (I → Option ℕ → I → Type 0) → Bool → List ℕ → Result ℕ LabelFromStrErrorKind → I → Type 0
GivesOctet steps start cs (Err why) left = NoOctet start cs why
GivesOctet steps start cs (Ok c) left = (rest : List ℕ) × BeginsWithOctet start cs c rest × AlwaysYields steps (λ c. c) left rest

-- The same, whatever the characters after the first one, c, are.
abbrev pub ReadsOctet : {I : Type 0} → (I → Option ℕ → I → Type 0) → Bool → ℕ → I → Result ℕ LabelFromStrErrorKind → I → Type 0
ReadsOctet steps start c chars r left =
    (cs : List ℕ) → AlwaysYields steps (λ c. c) chars cs → GivesOctet steps start (c ∷ cs) r left
