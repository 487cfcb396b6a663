-- The texts of names (RFC 1035, 5.1).
use Rattle.std.specs.Prelude.{◌≡◌, ◌≢◌, ℕ, ◌<◌, ◌≤◌, ◌⊎◌, List, [], ◌∷◌, ◌++◌, length, ⊤, Option, Some, None, Result, MatchResult}
use Rattle.domain_label.specs.Wire.{wire, IsLabel, Root}
use Rattle.domain_label.specs.declared.symbol.Symbol.{Symbol}
use Rattle.domain_label.specs.declared.symbol.SymbolCharsError.{SymbolCharsError}
use Rattle.domain_label.specs.Spelling.{ReadsSymbols}
use Rattle.domain_text.specs.BuilderState.{BuilderState, closed, rooted, size, symbol_fault}
use Rattle.domain_text.specs.NameSymbols.{name_symbols}
use Rattle.domain_text.specs.declared.name_symbol.TextFault.{TextFault}
use Rattle.domain_text.specs.declared.name_symbol.TextFault.TheVariants.{ShortInput}
use Rattle.domain_text.specs.declared.name_symbol.NameSymbol.{NameSymbol}
use Rattle.domain_text.specs.declared.name_symbol.NameSymbol.TheVariants.{Dot, Octet, Bracket, Nothing}

-- The octet that a part is in a label.
abbrev pub IsOctet : NameSymbol → ℕ → Type 0
IsOctet Dot c = ⊥
IsOctet (Octet d) c = d ≡ c
IsOctet Bracket c = 91 ≡ c
IsOctet (Nothing f) c = ⊥

-- These symbols, one by one, are these octets of a label.
abbrev pub AreOctets : List NameSymbol → List ℕ → Type 0
AreOctets [] [] = ⊤
AreOctets [] (c ∷ cs) = ⊥
AreOctets (p ∷ ps) [] = ⊥
AreOctets (p ∷ ps) (c ∷ cs) = IsOctet p c × AreOctets ps cs

-- A label has octets, and doesn't begin with `\[`.
abbrev pub CanBegin : List NameSymbol → Type 0
CanBegin [] = ⊥
CanBegin (Bracket ∷ ps) = ⊥
CanBegin (p ∷ ps) = ⊤

-- The text of one label.
pub record IsLabelText (ps : List NameSymbol) (l : List ℕ) : Type 0 where
  pub octets : AreOctets ps l
  pub start : CanBegin ps
  pub short : IsLabel l

-- Texts of labels with one dot between two; that of no label is empty.
abbrev pub Joined : List NameSymbol → List (List ℕ) → Type 0
Joined ps [] = ps ≡ []
Joined ps (l ∷ []) = IsLabelText ps l
Joined ps (l ∷ m ∷ ls) = (a : List NameSymbol) × (b : List NameSymbol) × IsLabelText a l × (ps ≡ a ++ Dot ∷ b) × Joined b (m ∷ ls)

-- The text of a relative name.
abbrev pub IsRelativeText : List NameSymbol → List (List ℕ) → Type 0
IsRelativeText ps ls = Joined ps ls × (length (wire ls) ≤ 254)

-- Texts of labels with at most one dot after the last.
pub record AreLabelTexts (ps : List NameSymbol) (ls : List (List ℕ)) : Type 0 where
  pub some : 0 < length ls
  pub text : List NameSymbol
  pub joined : Joined text ls
  pub dot : (ps ≡ text) ⊎ (ps ≡ text ++ Dot ∷ [])

-- The text of an absolute name: a dot alone is the root.
abbrev pub IsNameText : List NameSymbol → List (List ℕ) → Type 0
IsNameText ps ls =
    ((ps ≡ Dot ∷ []) × (ls ≡ Root))
    ⊎ ((ks : List (List ℕ)) × AreLabelTexts ps ks × (ls ≡ ks ++ Root) × (length (wire ls) ≤ 255))

-- A text begins with texts of the labels fs, a dot after each, and then with nothing, or with the octets
-- o of a label that isn't ended.
abbrev pub IsTextSoFar : List NameSymbol → List (List ℕ) → List ℕ → Type 0
IsTextSoFar ps [] [] = ps ≡ []
IsTextSoFar ps [] (c ∷ o) = IsLabelText ps (c ∷ o)
IsTextSoFar ps (l ∷ fs) o = (a : List NameSymbol) × (b : List NameSymbol) × IsLabelText a l × (ps ≡ a ++ Dot ∷ b) × IsTextSoFar b fs o

-- The first part of a text that can't follow what the text begins with, and why.
pub record FirstFault (ps : List NameSymbol) (f : TextFault) : Type 0 where
  pub before : List NameSymbol
  pub part : NameSymbol
  pub rest : List NameSymbol
  pub whole : ps ≡ before ++ part ∷ rest
  pub built : BuilderState
  pub begins : IsTextSoFar before built.labels built.open_label
  pub short : size built ≤ 254
  pub refused : symbol_fault built part ≡ Some f

-- Why a text is no absolute name: it is empty, which is reported as an end too early, or it has a first fault.
abbrev pub NotANameText : List NameSymbol → TextFault → Type 0
NotANameText ps f = ((ps ≡ []) × (f ≡ ShortInput)) ⊎ ((ps ≢ Dot ∷ []) × FirstFault ps f)

-- The text of a relative name of some labels, and a dot after it.
pub record EndsInDot (ps : List NameSymbol) : Type 0 where
  pub labels : List (List ℕ)
  pub some : 0 < length labels
  pub text : List NameSymbol
  pub joined : Joined text labels
  pub short : length (wire labels) ≤ 254
  pub dot : ps ≡ text ++ Dot ∷ []

-- The characters cs are the text of the name ls.
abbrev pub IsTextOfName : List ℕ → List (List ℕ) → Type 0
IsTextOfName cs ls = (items : List (Result Symbol SymbolCharsError)) × ReadsSymbols cs items × IsNameText (name_symbols items) ls

-- The characters cs are the text of no absolute name, and have the fault f.
abbrev pub IsTextOfNoName : List ℕ → TextFault → Type 0
IsTextOfNoName cs f = (items : List (Result Symbol SymbolCharsError)) × ReadsSymbols cs items × NotANameText (name_symbols items) f

-- The characters cs are the text of the relative name ls.
abbrev pub IsTextOfRelative : List ℕ → List (List ℕ) → Type 0
IsTextOfRelative cs ls = (items : List (Result Symbol SymbolCharsError)) × ReadsSymbols cs items × IsRelativeText (name_symbols items) ls

-- Why a text is no relative name: a first fault, or None where it ends in a dot after a label.
abbrev pub NoRelative : List NameSymbol → Option TextFault → Type 0
NoRelative ps (Some f) = FirstFault ps f
NoRelative ps None = EndsInDot ps

-- The same of the characters cs.
abbrev pub IsTextOfNoRelative : List ℕ → Option TextFault → Type 0
IsTextOfNoRelative cs why = (items : List (Result Symbol SymbolCharsError)) × ReadsSymbols cs items × NoRelative (name_symbols items) why

-- What reading an absolute name gives: all that is built, and the root, is the name whose text the parts are, or
-- they have the fault.
abbrev pub ReadsName : List NameSymbol → BuilderState → Result (Unit {0}) TextFault → Type 0
ReadsName ps built r = MatchResult r (λ _. IsNameText ps (rooted built)) (NotANameText ps)

-- The same of a relative name, which has no root.
abbrev pub ReadsRelative : List NameSymbol → BuilderState → Result (Unit {0}) (Option TextFault) → Type 0
ReadsRelative ps built r = MatchResult r (λ _. IsRelativeText ps (closed built)) (NoRelative ps)
