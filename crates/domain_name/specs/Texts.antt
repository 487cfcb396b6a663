-- What contracts say of names that are read of the characters that the iterator `it` always gives: `gives` is what a
-- call of its `next` gives. `room` is how many octets fit, where that is fixed for the type.
use Rattle.std.specs.Prelude.{◌≡◌, ℕ, List, Option, Result, IfOk, IfErr, MatchResult}
use Rattle.std.specs.Iterator.{AlwaysYields}
use Rattle.octseq.specs.declared.octets.Octets.{Ghosts}
use Rattle.domain_label.specs.declared.symbol.Symbol.{Symbol}
use Rattle.domain_builder.specs.NameSymbols.{symbols_in_name}
use Rattle.domain_builder.specs.TextErrors.{MakesName, NoNameRead, NoRelativeRead, LacksCapacity, RelativeLacksCapacity, IsErrorOfText, IsErrorOfRelativeText}
use Rattle.domain_builder.specs.TextGrammar.{IsTextOfName, IsTextOfNoName, IsTextOfRelative, IsTextOfNoRelative}
use Rattle.domain_builder.specs.declared.error.FromStrError.{FromStrError}
use Rattle.domain_builder.specs.declared.error.RelativeFromStrError.{RelativeFromStrError}
use Rattle.domain_builder.specs.declared.name_symbol.TextFault.{TextFault}
use Rattle.domain_name.specs.Names.{name_labels, relative_labels}
use Rattle.domain_name.specs.declared.absolute.Name.{Name}
use Rattle.domain_name.specs.declared.relative.RelativeName.{RelativeName}

-- They are the text of the name that was read.
abbrev pub ReadsChars : {I O E : Type 0} {g : Ghosts O} → (I → Option ℕ → I → Type 0) → I → Result (Name O g) E → Type 0
ReadsChars gives it result =
    (cs : List ℕ) → AlwaysYields gives (λ c. c) it cs → IfOk result (λ name. IsTextOfName cs (name_labels name))

-- Why no name was read: a fault of theirs, or else the octets of the name that they are the text of lack room.
abbrev pub TellsCharsFault : {I N : Type 0} → (I → Option ℕ → I → Type 0) → I → Option ℕ → Result N FromStrError → Type 0
TellsCharsFault gives it room result =
    (cs : List ℕ) → AlwaysYields gives (λ c. c) it cs → IfErr result (NoNameRead room cs)

-- If they are the text of a name, it is read, or its octets lack room.
abbrev pub AcceptsChars : {I O : Type 0} {g : Ghosts O} → (I → Option ℕ → I → Type 0) → I → Option ℕ → Result (Name O g) FromStrError → Type 0
AcceptsChars gives it room result =
    (cs : List ℕ) (ls : List (List ℕ)) → AlwaysYields gives (λ c. c) it cs → IsTextOfName cs ls
    → MatchResult result (λ name. name_labels name ≡ ls) (LacksCapacity room ls)

-- If they are the text of none, their fault is the error.
abbrev pub RefusesChars : {I N : Type 0} → (I → Option ℕ → I → Type 0) → I → Result N FromStrError → Type 0
RefusesChars gives it result =
    (cs : List ℕ) (f : TextFault) → AlwaysYields gives (λ c. c) it cs → IsTextOfNoName cs f
    → MatchResult result (λ _. ⊥) (IsErrorOfText f)

-- The name that the symbols are the text of which the iterator always gives, or why there is none.
abbrev pub MakesNameOf : {I O : Type 0} {g : Ghosts O} → (I → Option Symbol → I → Type 0) → I → Option ℕ → Result (Name O g) FromStrError → Type 0
MakesNameOf gives it room result =
    (ss : List Symbol) → AlwaysYields gives (λ x. x) it ss → MakesName name_labels room (symbols_in_name ss) result

-- They are the text of the relative name that was read.
abbrev pub ReadsRelativeChars : {I O E : Type 0} {g : Ghosts O} → (I → Option ℕ → I → Type 0) → I → Result (RelativeName O g) E → Type 0
ReadsRelativeChars gives it result =
    (cs : List ℕ) → AlwaysYields gives (λ c. c) it cs → IfOk result (λ name. IsTextOfRelative cs (relative_labels name))

-- Why no relative name was read.
abbrev pub TellsRelativeCharsFault : {I N : Type 0} → (I → Option ℕ → I → Type 0) → I → Option ℕ → Result N RelativeFromStrError → Type 0
TellsRelativeCharsFault gives it room result =
    (cs : List ℕ) → AlwaysYields gives (λ c. c) it cs → IfErr result (NoRelativeRead room cs)

-- If they are the text of a relative name, it is read, or its octets lack room.
abbrev pub AcceptsRelativeChars : {I O : Type 0} {g : Ghosts O} → (I → Option ℕ → I → Type 0) → I → Option ℕ → Result (RelativeName O g) RelativeFromStrError → Type 0
AcceptsRelativeChars gives it room result =
    (cs : List ℕ) (ls : List (List ℕ)) → AlwaysYields gives (λ c. c) it cs → IsTextOfRelative cs ls
    → MatchResult result (λ name. relative_labels name ≡ ls) (RelativeLacksCapacity room ls)

-- If they are the text of none, their fault, or a dot at the end, is the error.
abbrev pub RefusesRelativeChars : {I N : Type 0} → (I → Option ℕ → I → Type 0) → I → Result N RelativeFromStrError → Type 0
RefusesRelativeChars gives it result =
    (cs : List ℕ) (why : Option TextFault) → AlwaysYields gives (λ c. c) it cs → IsTextOfNoRelative cs why
    → MatchResult result (λ _. ⊥) (IsErrorOfRelativeText why)
