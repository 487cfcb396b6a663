-- What errors of text tell.
use Rattle.std.specs.Prelude.{Result, IfOk, IfErr, MatchResult, ◌≡◌, ℕ, List, length, Option, None, Some}
use Rattle.octseq.specs.Capacity.{MayExceedCapacity}
use Rattle.domain_label.specs.Wire.{wire, labels_in}
use Rattle.domain_text.specs.BuilderState.{BuilderState}
use Rattle.domain_text.specs.TextGrammar.{ReadsName, ReadsRelative, IsNameText, NotANameText, IsRelativeText, NoRelative, IsTextOfName, IsTextOfNoName, IsTextOfRelative, IsTextOfNoRelative}
use Rattle.domain_text.specs.declared.name_symbol.NameSymbol.{NameSymbol}
use Rattle.domain_label.specs.declared.symbol.SymbolCharsError.{SymbolCharsError}
use Rattle.domain_label.specs.declared.symbol.SymbolCharsError.TheVariants as broken
use Rattle.domain_text.specs.declared.name_symbol.TextFault.{TextFault}
use Rattle.domain_text.specs.declared.name_symbol.TextFault.TheVariants as fault
use Rattle.domain_label.specs.LabelText.{label_error_kind}
use Rattle.domain_label.specs.declared.label_text.LabelFromStrError.{LabelFromStrError}
use Rattle.domain_label.specs.declared.label_text.LabelFromStrErrorKind.{LabelFromStrErrorKind}
use Rattle.domain_label.specs.declared.label_text.LabelFromStrErrorKind.TheVariants.{SymbolChars, BadSymbol, BinaryLabel, LongLabel}
use Rattle.domain_text.specs.declared.error.PresentationError.{PresentationError}
use Rattle.domain_text.specs.declared.error.PresentationErrorKind.{PresentationErrorKind}
use Rattle.domain_text.specs.declared.error.PresentationErrorKind.TheVariants.{BadLabel, EmptyLabel, LongName}
use Rattle.domain_text.specs.declared.error.FromStrError.{FromStrError}
use Rattle.domain_text.specs.declared.error.FromStrError.TheVariants.{Presentation, ShortBuf}
use Rattle.domain_text.specs.declared.error.RelativeFromStrError.{RelativeFromStrError}
use Rattle.domain_text.specs.declared.error.RelativeFromStrError.TheVariants.{FromStr, AbsoluteName}

-- the labels that octets are the wire format of, by what a type says that its octets are
abbrev pub labels_of : {O : Type 0} → (O → List ℕ) → O → List (List ℕ)
labels_of octets o = labels_in (octets o)

-- which fault an error of a text names
abbrev pub presentation_error_kind : PresentationError → PresentationErrorKind
presentation_error_kind e = e.kind

-- an escape that is cut short or broken, as a fault of a text
abbrev pub broken_fault : SymbolCharsError → TextFault
broken_fault broken.ShortInput = fault.ShortInput
broken_fault broken.BadEscape = fault.BadEscape

-- an error of a label, as a fault of a text
abbrev pub label_fault : LabelFromStrErrorKind → TextFault
label_fault (SymbolChars e) = broken_fault e
label_fault (BadSymbol e) = fault.BadSymbol
label_fault BinaryLabel = fault.BinaryLabel
label_fault LongLabel = fault.LongLabel

-- an error of a text, as its fault
abbrev pub presentation_fault : PresentationErrorKind → TextFault
presentation_fault (BadLabel e) = label_fault (label_error_kind e)
presentation_fault EmptyLabel = fault.EmptyLabel
presentation_fault LongName = fault.LongName

-- The text has a fault, for which P holds, or the octets lack room, for which Q does.
abbrev pub MatchFromStr : FromStrError → (TextFault → Type 0) → Type 0 → Type 0
MatchFromStr (Presentation e) P Q = P (presentation_fault (presentation_error_kind e))
MatchFromStr ShortBuf P Q = Q

-- The text has this fault of a label.
abbrev pub IsBadLabel : LabelFromStrError → FromStrError → Type 0
IsBadLabel e (Presentation p) = presentation_error_kind p ≡ BadLabel e
IsBadLabel e ShortBuf = ⊥

-- The same for a relative name, where None is a dot at the end.
abbrev pub MatchRelativeFromStr : RelativeFromStrError → (Option TextFault → Type 0) → Type 0 → Type 0
MatchRelativeFromStr (FromStr e) P Q = MatchFromStr e (λ f. P (Some f)) Q
MatchRelativeFromStr AbsoluteName P Q = P None

-- Why no name was made of a text: a fault of the text, or else its octets lack room.
abbrev pub NoNameMade : Option ℕ → List NameSymbol → FromStrError → Type 0
NoNameMade room ps e = MatchFromStr e (NotANameText ps) ((ls : List (List ℕ)) × IsNameText ps ls × MayExceedCapacity room (length (wire ls)))

-- The same of relative names.
abbrev pub NoRelativeMade : Option ℕ → List NameSymbol → RelativeFromStrError → Type 0
NoRelativeMade room ps e = MatchRelativeFromStr e (NoRelative ps) ((ls : List (List ℕ)) × IsRelativeText ps ls × MayExceedCapacity room (length (wire ls)))

-- What making a name of parts of a text gives: the name whose text they are, or why there is none.
abbrev pub MakesName : {N : Type 0} → (N → List (List ℕ)) → Option ℕ → List NameSymbol → Result N FromStrError → Type 0
MakesName labels room ps r = MatchResult r (λ n. IsNameText ps (labels n)) (NoNameMade room ps)

-- The same of relative names.
abbrev pub MakesRelative : {N : Type 0} → (N → List (List ℕ)) → Option ℕ → List NameSymbol → Result N RelativeFromStrError → Type 0
MakesRelative labels room ps r = MatchResult r (λ n. IsRelativeText ps (labels n)) (NoRelativeMade room ps)

-- The same where the parts, whatever they were, were read so: of what is built and the root.
abbrev pub MakesRooted : {N : Type 0} → (N → List (List ℕ)) → Option ℕ → BuilderState → Result (Unit {0}) TextFault → Result N FromStrError → Type 0
MakesRooted labels room built read r =
    (ps : List NameSymbol) → ReadsName ps built read → MakesName labels room ps r

-- The same of relative names, which have no root.
abbrev pub MakesRootless : {N : Type 0} → (N → List (List ℕ)) → Option ℕ → BuilderState → Result (Unit {0}) (Option TextFault) → Result N RelativeFromStrError → Type 0
MakesRootless labels room built read r =
    (ps : List NameSymbol) → ReadsRelative ps built read → MakesRelative labels room ps r

-- Why no name was read of the characters cs: a fault of theirs, or else the octets of the name that they
-- are the text of lack room.
abbrev pub NoNameRead : Option ℕ → List ℕ → FromStrError → Type 0
NoNameRead room cs e = MatchFromStr e (IsTextOfNoName cs) ((ls : List (List ℕ)) × IsTextOfName cs ls × MayExceedCapacity room (length (wire ls)))

-- The same of relative names.
abbrev pub NoRelativeRead : Option ℕ → List ℕ → RelativeFromStrError → Type 0
NoRelativeRead room cs e = MatchRelativeFromStr e (IsTextOfNoRelative cs) ((ls : List (List ℕ)) × IsTextOfRelative cs ls × MayExceedCapacity room (length (wire ls)))

-- The error is a want of room for these labels.
abbrev pub LacksCapacity : Option ℕ → List (List ℕ) → FromStrError → Type 0
LacksCapacity room ls e = MatchFromStr e (λ _. ⊥) (MayExceedCapacity room (length (wire ls)))

-- The same of relative names.
abbrev pub RelativeLacksCapacity : Option ℕ → List (List ℕ) → RelativeFromStrError → Type 0
RelativeLacksCapacity room ls e = MatchRelativeFromStr e (λ _. ⊥) (MayExceedCapacity room (length (wire ls)))

-- The error is this fault, or where it is None a dot at the end.
abbrev pub IsErrorOfText : TextFault → FromStrError → Type 0
IsErrorOfText f e = MatchFromStr e (λ told. told ≡ f) ⊥

-- The same of relative names.
abbrev pub IsErrorOfRelativeText : Option TextFault → RelativeFromStrError → Type 0
IsErrorOfRelativeText why e = MatchRelativeFromStr e (λ told. told ≡ why) ⊥

-- What reading a name of the characters cs gives: the name that they are the text of, or their fault, or
-- else a want of room.
pub record ReadsNameText {N : Type 0} (labels : N → List (List ℕ)) (room : Option ℕ) (cs : List ℕ) (r : Result N FromStrError) : Type 0 where
  pub ok : IfOk r (λ n. IsTextOfName cs (labels n))
  pub err : IfErr r (NoNameRead room cs)
  pub accepts : (ls : List (List ℕ)) → IsTextOfName cs ls → MatchResult r (λ n. labels n ≡ ls) (LacksCapacity room ls)
  pub exact : (f : TextFault) → IsTextOfNoName cs f → MatchResult r (λ _. ⊥) (IsErrorOfText f)

-- The same of relative names.
pub record ReadsRelativeText {N : Type 0} (labels : N → List (List ℕ)) (room : Option ℕ) (cs : List ℕ) (r : Result N RelativeFromStrError) : Type 0 where
  pub ok : IfOk r (λ n. IsTextOfRelative cs (labels n))
  pub err : IfErr r (NoRelativeRead room cs)
  pub accepts : (ls : List (List ℕ)) → IsTextOfRelative cs ls → MatchResult r (λ n. labels n ≡ ls) (RelativeLacksCapacity room ls)
  pub exact : (why : Option TextFault) → IsTextOfNoRelative cs why → MatchResult r (λ _. ⊥) (IsErrorOfRelativeText why)
