-- What an iterator over symbols that were read already gives.
use Rattle.std.specs.Prelude.{List, map, Option, Some, None, Result, Ok, Err}
use Rattle.std.specs.Iterator.{AlwaysYields}
use Rattle.domain_label.specs.declared.symbol.Symbol.{Symbol}
use Rattle.domain_label.specs.declared.symbol.SymbolCharsError.{SymbolCharsError}
use Rattle.domain_text.specs.declared.whole.WholeSymbols.{WholeSymbols}

-- the source of symbols
abbrev pub symbols_of : {I : Type 0} → WholeSymbols I → I
symbols_of s = s.symbols

-- A call gives the next of the symbols.
abbrev pub WholeSteps : {I : Type 0} → (I → Option Symbol → I → Type 0) → WholeSymbols I → Option (Result Symbol SymbolCharsError) → WholeSymbols I → Type 0
WholeSteps steps s None t = steps s.symbols None t.symbols
WholeSteps steps s (Some (Ok x)) t = steps s.symbols (Some x) t.symbols
WholeSteps steps s (Some (Err e)) t = ⊥

-- Whatever symbols the source yields, those are what is read.
abbrev pub YieldsWhole : {I : Type 0} → (I → Option Symbol → I → Type 0) → I → WholeSymbols I → Type 0
YieldsWhole steps symbols s =
    (ss : List Symbol) → AlwaysYields steps (λ x. x) symbols ss → AlwaysYields (WholeSteps steps) (λ x. x) s (map Ok ss)
