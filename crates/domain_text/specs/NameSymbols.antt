-- What the symbols of a text are in a name.
use Rattle.std.specs.Prelude.{◌≡◌, ◌≢◌, ℕ, ◌==◌, Bool, true, false, List, map, Option, Result, Ok, Err, if◌then◌else◌}
use Rattle.std.specs.Iterator.{AlwaysYields}
use Rattle.domain_label.specs.Spelling.{octet_of, ReadsSymbols}
use Rattle.domain_label.specs.declared.symbol.BadSymbol.{BadSymbol as NoOctet}
use Rattle.domain_label.specs.declared.symbol.Symbol.{Symbol}
use Rattle.domain_label.specs.declared.symbol.Symbol.TheVariants.{Char, SimpleEscape, DecimalEscape}
use Rattle.domain_label.specs.declared.symbol.SymbolCharsError.{SymbolCharsError}
use Rattle.domain_label.specs.declared.symbol.SymbolCharsError.TheVariants as broken
use Rattle.domain_text.specs.declared.name_symbol.TextFault.TheVariants.{ShortInput, BadEscape, BadSymbol}
use Rattle.domain_text.specs.declared.name_symbol.NameSymbol.{NameSymbol}
use Rattle.domain_text.specs.declared.name_symbol.NameSymbol.TheVariants.{Dot, Octet, Bracket, Nothing}

-- What is read of a text: symbols, and at a broken escape its error.
abbrev pub Items : Type 0
Items = List (Result Symbol SymbolCharsError)

-- The octet of a symbol, or that it has none.
abbrev pub octet_symbol : Result ℕ NoOctet → NameSymbol
octet_symbol (Ok c) = Octet c
octet_symbol (Err f) = Nothing BadSymbol

-- A plain dot separates labels. `\[` begins a binary label, which is no longer in use (RFC 6891, 5), and
-- is an octet elsewhere. Any other symbol is its octet, if it has one.
abbrev pub symbol_in_name : Symbol → NameSymbol
symbol_in_name (Char c) = if c == 46 then Dot else octet_symbol (octet_of (Char c))
symbol_in_name (SimpleEscape c) = if c == 91 then Bracket else Octet c
symbol_in_name (DecimalEscape c) = Octet c

-- An escape that is cut short or broken (RFC 1035, 5.1).
abbrev pub broken_symbol : SymbolCharsError → NameSymbol
broken_symbol broken.ShortInput = Nothing ShortInput
broken_symbol broken.BadEscape = Nothing BadEscape

-- What one item of a text, a symbol or a broken escape, is in a name.
abbrev pub name_symbol : Result Symbol SymbolCharsError → NameSymbol
name_symbol (Ok s) = symbol_in_name s
name_symbol (Err e) = broken_symbol e

-- The same of each item of a text.
abbrev pub name_symbols : Items → List NameSymbol
name_symbols = map name_symbol

-- P holds of the parts that the characters cs are read as.
abbrev pub IfParts : List ℕ → (List NameSymbol → Type 0) → Type 0
IfParts cs P = (all : Items) → ReadsSymbols cs all → P (name_symbols all)

-- P holds of the parts that the items are which an iterator yields, if it ends.
abbrev pub IfYieldsParts : {I : Type 0}
    → (I → Option (Result Symbol SymbolCharsError) → I → Type 0) → I → (List NameSymbol → Type 0) → Type 0
IfYieldsParts steps items P = (all : Items) → AlwaysYields steps (λ x. x) items all → P (name_symbols all)

-- The part is a dot, or it isn't.
abbrev pub IsDot : NameSymbol → Bool → Type 0
IsDot p true = p ≡ Dot
IsDot p false = p ≢ Dot

-- The same of symbols that were read already.
abbrev pub symbols_in_name : List Symbol → List NameSymbol
symbols_in_name = map symbol_in_name
