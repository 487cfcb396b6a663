-- The text of a label by itself (RFC 1035, 5.1).
use Rattle.std.specs.Prelude.{◌≡◌, ◌≢◌, ℕ, ◌<◌, ◌⊎◌, Bool, true, false, ◌&&◌, ◌==◌, List, [], ◌∷◌, ◌++◌, length, Result, Ok, Err, if◌then◌else◌}
use Rattle.std.specs.Char.{IsAsciiControl}
use Rattle.domain_label.specs.Spelling.{spelling, HasSpelling, IsBroken, JustOne, bad_symbol, octet_of}
use Rattle.domain_label.specs.Labels.{owned_octets}
use Rattle.domain_label.specs.Wire.{IsLabel}
use Rattle.domain_label.specs.declared.owned.OwnedLabel.{OwnedLabel}
use Rattle.domain_label.specs.declared.label_text.LabelFromStrError.{LabelFromStrError}
use Rattle.domain_label.specs.declared.label_text.LabelFromStrErrorKind.{LabelFromStrErrorKind}
use Rattle.domain_label.specs.declared.label_text.LabelFromStrErrorKind.TheVariants.{SymbolChars, BinaryLabel, LongLabel}
use Rattle.domain_label.specs.declared.label_text.LabelFromStrErrorKind.TheVariants as kind
use Rattle.domain_label.specs.declared.symbol.BadSymbol.{BadSymbol}
use Rattle.domain_label.specs.declared.symbol.Symbol.{Symbol}
use Rattle.domain_label.specs.declared.symbol.Symbol.TheVariants.{Char, SimpleEscape, DecimalEscape}
use Rattle.domain_label.specs.declared.symbol.SymbolCharsError.{SymbolCharsError}

-- which error an error of a label names
abbrev pub label_error_kind : LabelFromStrError → LabelFromStrErrorKind
label_error_kind e = e.kind

-- A backslash before an ASCII control character.
abbrev pub IsControlEscape : Symbol → Type 0
IsControlEscape (Char c) = ⊥
IsControlEscape (SimpleEscape c) = IsAsciiControl c
IsControlEscape (DecimalEscape n) = ⊥

-- The symbols of such a text: those of all texts, and a backslash before an ASCII control character.
abbrev pub IsLabelSymbol : Symbol → Type 0
IsLabelSymbol s = HasSpelling s ⊎ IsControlEscape s

-- An escape is broken, and not by a control character after the backslash.
abbrev pub IsBrokenInLabel : List ℕ → SymbolCharsError → Type 0
IsBrokenInLabel cs e = IsBroken cs e × ((c : ℕ) (rest : List ℕ) → cs ≡ 92 ∷ c ∷ rest → IsAsciiControl c → ⊥)

-- an octet, or that a symbol has none
abbrev pub octet_or_bad : Result ℕ BadSymbol → Result ℕ LabelFromStrErrorKind
octet_or_bad (Ok c) = Ok c
octet_or_bad (Err e) = Err (kind.BadSymbol e)

-- The octet that a symbol is in a label, at its start or after it, or why it is none. A plain dot would end the
-- label, and `\[` at its start would begin a binary one, which is no longer in use (RFC 6891, 5).
abbrev pub label_octet : Bool → Symbol → Result ℕ LabelFromStrErrorKind
label_octet start (Char c) = if c == 46 then Err (kind.BadSymbol bad_symbol) else octet_or_bad (octet_of (Char c))
label_octet start (SimpleEscape c) = if start && c == 91 then Err BinaryLabel else Ok c
label_octet start (DecimalEscape c) = Ok c

-- The text cs begins with a symbol that is the octet c, and rest is after it.
pub record BeginsWithOctet (start : Bool) (cs : List ℕ) (c : ℕ) (rest : List ℕ) : Type 0 where
  pub symbol : Symbol
  pub whole : IsLabelSymbol symbol
  pub spelled : cs ≡ spelling symbol ++ rest
  pub octet : label_octet start symbol ≡ Ok c

-- It begins with symbols that are the octets l, one after another. Only the first is at the start.
abbrev pub BeginsWithOctets : Bool → List ℕ → List ℕ → List ℕ → Type 0
BeginsWithOctets start cs [] rest = cs ≡ rest
BeginsWithOctets start cs (c ∷ l) rest = (more : List ℕ) × BeginsWithOctet start cs c more × BeginsWithOctets false more l rest

-- The text of the label l. The empty text is that of the root label.
abbrev pub IsOwnedLabelText : List ℕ → List ℕ → Type 0
IsOwnedLabelText cs l = BeginsWithOctets true cs l [] × IsLabel l

-- The text cs begins with no octet, and why: an escape is broken, or the symbol is none.
abbrev pub NoOctet : Bool → List ℕ → LabelFromStrErrorKind → Type 0
NoOctet start cs why =
    ((e : SymbolCharsError) × IsBrokenInLabel cs e × (why ≡ SymbolChars e))
    ⊎ ((s : Symbol) × (rest : List ℕ) × IsLabelSymbol s × (cs ≡ spelling s ++ rest) × (label_octet start s ≡ Err why))

-- Whether what comes after the octets l is at the start of a label, if they are.
abbrev pub still_start : Bool → List ℕ → Bool
still_start start [] = start
still_start start (c ∷ l) = false

-- What can't follow the octets l of a label, and why: no octet; after 63 octets anything, whatever it is.
abbrev pub CannotFollow : List ℕ → List ℕ → LabelFromStrErrorKind → Type 0
CannotFollow l rest why =
    ((length l < 63) × NoOctet (still_start true l) rest why)
    ⊎ ((length l ≡ 63) × (rest ≢ []) × (why ≡ LongLabel))

-- Why cs is the text of no label: its first symbols are the octets `before`, and what is after them can't follow.
pub record HasLabelFault (cs : List ℕ) (why : LabelFromStrErrorKind) : Type 0 where
  pub before : List ℕ
  pub rest : List ℕ
  pub begins : BeginsWithOctets true cs before rest
  pub refused : CannotFollow before rest why

-- What is read of a text: its label, or its error.
abbrev pub ReadsLabel : List ℕ → Result OwnedLabel LabelFromStrError → Type 0
ReadsLabel cs (Ok label) = IsOwnedLabelText cs (owned_octets label)
ReadsLabel cs (Err e) = HasLabelFault cs (label_error_kind e)

-- A text is that of one label and has no error, or has one error and is that of no label.
abbrev pub OneLabel : List ℕ → Type 0
OneLabel cs =
    (JustOne (IsOwnedLabelText cs) × ((why : LabelFromStrErrorKind) → HasLabelFault cs why → ⊥))
    ⊎ (JustOne (HasLabelFault cs) × ((l : List ℕ) → IsOwnedLabelText cs l → ⊥))
