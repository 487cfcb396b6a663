-- What calls of a builder answer and append. `limit` is how many octets are fixed for its type.
use Rattle.std.specs.Prelude.{◌≡◌, ℕ, ◌+◌, ◌<◌, List, [], ◌∷◌, ◌++◌, length, Option, Result, IfOk}
use Rattle.std.specs.Iterator.{AlwaysYields}
use Rattle.octseq.specs.declared.octets.Octets.{Ghosts}
use Rattle.domain_label.specs.Spelling.{ReadsSymbols}
use Rattle.domain_label.specs.Wire.{IsAbsoluteWire, labels_in}
use Rattle.domain_label.specs.declared.symbol.Symbol.{Symbol}
use Rattle.domain_label.specs.declared.symbol.SymbolCharsError.{SymbolCharsError}
use Rattle.domain_text.specs.BuilderState.{BuilderState, closed, pushed, labelled, named, size}
use Rattle.domain_text.specs.NameSymbols.{Items, name_symbols, symbols_in_name}
use Rattle.domain_text.specs.declared.error.FromStrError.{FromStrError}
use Rattle.domain_builder.specs.Inside.{Held, room}
use Rattle.domain_builder.specs.Pushing.{LabelThenName, OpenLabelThenName, NameThenOpenLabel, NameAlone, RoomAlone, NameFits, OriginFits, AddsSymbols}
use Rattle.domain_builder.specs.declared.push_error.PushError.{PushError}
use Rattle.domain_builder.specs.declared.push_error.PushNameError.{PushNameError}

-- The parts of the text that is read are pushed in turn, up to the first that can't be.
abbrev pub AddsText : (limit : Option ℕ) → (text : List ℕ) → Held → Result (Unit {0}) FromStrError → Held → Type 0
AddsText limit text old r new =
    (items : Items) → ReadsSymbols text items → AddsSymbols limit old (name_symbols items) r new

-- The parts that an iterator yields are pushed in turn, up to the first that can't be.
abbrev pub AddsItems : {S : Type 0} → (limit : Option ℕ) → (S → Option (Result Symbol SymbolCharsError) → S → Type 0) → S → Held → Result (Unit {0}) FromStrError → Held → Type 0
AddsItems limit steps items old r new =
    (all : Items) → AlwaysYields steps (λ x. x) items all → AddsSymbols limit old (name_symbols all) r new

-- So are those of the characters that an iterator yields.
abbrev pub AddsChars : {S : Type 0} → (limit : Option ℕ) → (S → Option ℕ → S → Type 0) → S → Held → Result (Unit {0}) FromStrError → Held → Type 0
AddsChars limit steps chars old r new =
    (cs : List ℕ) (items : Items) → AlwaysYields steps (λ c. c) chars cs → ReadsSymbols cs items → AddsSymbols limit old (name_symbols items) r new

-- So are the symbols that an iterator yields.
abbrev pub AddsEach : {S : Type 0} → (limit : Option ℕ) → (S → Option Symbol → S → Type 0) → S → Held → Result (Unit {0}) FromStrError → Held → Type 0
AddsEach limit steps symbols old r new =
    (ss : List Symbol) → AlwaysYields steps (λ x. x) symbols ss → AddsSymbols limit old (symbols_in_name ss) r new

-- The answer to an octet that is pushed.
abbrev pub AnswersOctet : (limit : Option ℕ) → ℕ → Held → Result (Unit {0}) PushError → Held → Type 0
AnswersOctet limit ch old r new = NameThenOpenLabel (pushed old.built (ch ∷ [])) (room limit new) r

-- The answer to octets that are pushed.
abbrev pub AnswersOctets : (limit : Option ℕ) → List ℕ → Held → Result (Unit {0}) PushError → Held → Type 0
AnswersOctets limit slice old r new = OpenLabelThenName (pushed old.built slice) (room limit new) r

-- The answer to a label that is added.
abbrev pub AnswersLabel : (limit : Option ℕ) → List ℕ → Held → Result (Unit {0}) PushError → Held → Type 0
AnswersLabel limit label old r new =
    LabelThenName (length label) (size (labelled old.built label)) (room limit new) r

-- The answer to a label that is added and can't be long.
abbrev pub AnswersShortLabel : (limit : Option ℕ) → List ℕ → Held → Result (Unit {0}) PushError → Held → Type 0
AnswersShortLabel limit label old r new = NameAlone (size (labelled old.built label)) (room limit new) r

-- The answer to the labels of a relative name that are added.
abbrev pub AnswersName : (limit : Option ℕ) → List (List ℕ) → Held → Result (Unit {0}) PushNameError → Held → Type 0
AnswersName limit labels old r new = NameFits (size (named old.built labels)) (room limit new) r

-- The answer to an absolute name of `origin` octets that is put at the end.
abbrev pub AnswersOrigin : {A : Type 0} → (limit : Option ℕ) → (origin : ℕ) → Held → Result A PushNameError → Type 0
AnswersOrigin limit origin b r = OriginFits (size b.built + origin) (room limit b) r

-- The one error is that what would be made doesn't fit.
abbrev pub LacksOnlyRoom : {A : Type 0} → (limit : Option ℕ) → BuilderState → Held → Result A PushError → Type 0
LacksOnlyRoom limit made new r = RoomAlone (size made) (room limit new) r

-- The octets that are given are the wire format of an absolute name.
abbrev pub GivesAbsolute : {O E : Type 0} → Ghosts O → Result O E → Type 0
GivesAbsolute g r = IfOk r (λ o. IsAbsoluteWire (g.octets o))

-- The octets that are given have the labels that were built, and these after them.
abbrev pub Joins : {O E : Type 0} → Ghosts O → BuilderState → (origin : List (List ℕ)) → Result O E → Type 0
Joins g built origin r = IfOk r (λ o. labels_in (g.octets o) ≡ closed built ++ origin)

-- Octets exceed the spare capacity that there is then.
abbrev pub ExceedsCapacity : {B : Type 0} → Ghosts B → List ℕ → B → B → Type 0
ExceedsCapacity g octets old new = g.capacity new < length (g.octets old) + length octets

-- The labels of these octets came after those that were there.
abbrev pub AddsLabels : {B : Type 0} → Ghosts B → List ℕ → B → B → Type 0
AddsLabels g octets old new = labels_in (g.octets new) ≡ labels_in (g.octets old) ++ labels_in octets
