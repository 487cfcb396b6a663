-- How symbols are written in presentation format (RFC 1035, 5.1).
use Rattle.std.specs.Prelude.{◌≡◌, ◌≢◌, ℕ, ◌+◌, ◌-◌, ◌*◌, ◌/◌, ◌%◌, ◌<◌, ◌≤◌, ◌⊎◌, List, [], ◌∷◌, ◌++◌, length, Result, Ok, Err, if◌then◌else◌, ◌&&◌, nat_le}
use Rattle.std.specs.List.{AllByRecursion}
use Rattle.domain_label.specs.declared.symbol.Symbol.{Symbol}
use Rattle.domain_label.specs.declared.symbol.Symbol.TheVariants.{Char, SimpleEscape, DecimalEscape}
use Rattle.domain_label.specs.declared.symbol.SymbolCharsError.{SymbolCharsError}
use Rattle.domain_label.specs.declared.symbol.SymbolCharsError.TheVariants.{ShortInput, BadEscape}
use Rattle.domain_label.specs.declared.symbol.BadSymbol.{BadSymbol}

-- From 0 to 9.
abbrev pub IsDigit : ℕ → Type 0
IsDigit c = (48 ≤ c) × (c ≤ 57)

-- Anything else.
abbrev pub IsNoDigit : ℕ → Type 0
IsNoDigit c = (c < 48) ⊎ (57 < c)

-- From space to tilde.
abbrev pub IsPrintable : ℕ → Type 0
IsPrintable c = (32 ≤ c) × (c ≤ 126)

-- Anything else.
abbrev pub IsNotPrintable : ℕ → Type 0
IsNotPrintable c = (c < 32) ⊎ (126 < c)

-- The number that three digits spell.
abbrev pub number : ℕ → ℕ → ℕ → ℕ
number a b c = (a - 48) * 100 + (b - 48) * 10 + (c - 48)

-- A character stands for itself, one after a backslash has no special meaning, and three decimal digits after a
-- backslash are the octet of that number.
abbrev pub spelling : Symbol → List ℕ
spelling (Char c) = c ∷ []
spelling (SimpleEscape c) = 92 ∷ c ∷ []
spelling (DecimalEscape n) = 92 ∷ (48 + n / 100) ∷ (48 + n / 10 % 10) ∷ (48 + n % 10) ∷ []

-- A backslash is no character by itself, and one before a digit begins a number.
abbrev pub HasSpelling : Symbol → Type 0
HasSpelling (Char c) = c ≢ 92
HasSpelling (SimpleEscape c) = IsPrintable c × IsNoDigit c
HasSpelling (DecimalEscape n) = n ≤ 255

-- The character c breaks an escape of which the digits ds were read: it is neither a digit nor, as the
-- first, from space to tilde, or it is the third digit of a number over 255.
abbrev pub Breaks : List ℕ → ℕ → Type 0
Breaks [] c = IsNoDigit c × IsNotPrintable c
Breaks (a ∷ []) c = IsNoDigit c
Breaks (a ∷ b ∷ []) c = IsNoDigit c ⊎ (IsDigit c × (255 < number a b c))
Breaks (a ∷ b ∷ d ∷ ds) c = ⊥

-- A text that ends inside an escape, or where a character breaks one.
abbrev pub IsBroken : List ℕ → SymbolCharsError → Type 0
IsBroken cs ShortInput = (ds : List ℕ) × (cs ≡ 92 ∷ ds) × (length ds < 3) × AllByRecursion IsDigit ds
IsBroken cs BadEscape = (ds : List ℕ) × (c : ℕ) × (rest : List ℕ) × (cs ≡ 92 ∷ (ds ++ c ∷ rest)) × AllByRecursion IsDigit ds × Breaks ds c

-- What a text is read as, one after another: symbols, and at most a broken escape, which is the last.
abbrev pub ReadsSymbols : List ℕ → List (Result Symbol SymbolCharsError) → Type 0
ReadsSymbols cs [] = cs ≡ []
ReadsSymbols cs (Ok s ∷ items) = HasSpelling s × ((rest : List ℕ) × (cs ≡ spelling s ++ rest) × ReadsSymbols rest items)
ReadsSymbols cs (Err e ∷ items) = IsBroken cs e × (items ≡ [])

-- Some a is P, and no other.
abbrev pub JustOne : {A : Type 0} → (A → Type 0) → Type 0
JustOne {A} P = (a : A) × P a × ((b : A) → P b → b ≡ a)

-- Each text is read in one way.
abbrev pub IsReadOnce : List ℕ → Type 0
IsReadOnce cs = JustOne (ReadsSymbols cs)

-- the one value of the error
abbrev pub bad_symbol : BadSymbol
bad_symbol = record {}

-- The octet that a symbol stands for. A character does where it is from space to tilde.
abbrev pub octet_of : Symbol → Result ℕ BadSymbol
octet_of (Char c) = if nat_le 32 c && nat_le c 126 then Ok c else Err bad_symbol
octet_of (SimpleEscape c) = Ok c
octet_of (DecimalEscape c) = Ok c
