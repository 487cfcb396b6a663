-- Why no name is at an offset.
use Rattle.std.specs.Prelude.{ℕ, List}
use Rattle.domain_wire.specs.declared.error.ParseError.{ParseError}
use Rattle.domain_wire.specs.Refusals.{refusal}
use Rattle.domain_reading.specs.ParseResult.{HasNoName}

-- No name of at most n pointers is at p in m, and the error says why.
abbrev pub NoNameWithin : ℕ → List ℕ → ℕ → ParseError → Type 0
NoNameWithin n m p e = HasNoName n m p (refusal e)

-- The same of 255 pointers.
abbrev pub NoNameAt : List ℕ → ℕ → ParseError → Type 0
NoNameAt m p e = NoNameWithin 255 m p e
