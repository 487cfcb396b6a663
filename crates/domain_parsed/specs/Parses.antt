-- What reading a name promises.
use Rattle.std.specs.Prelude.{◌≡◌, ℕ, ◌+◌, ◌↔◌, List, length, false, Option, Result, IsOk, IfOk, IfErr, OnOk, OnErr, MatchOption, MatchResult}
use Rattle.octseq.specs.declared.octets.Octets.{Ghosts}
use Rattle.octseq.specs.declared.parse.Parser.{Parser}
use Rattle.octseq.specs.Parsing.{slice_of, message, position}
use Rattle.domain_wire.specs.Refusals.{refusal}
use Rattle.domain_wire.specs.declared.error.ParseError.{ParseError}
use Rattle.domain_label.specs.Wire.{wire}
use Rattle.domain_reading.specs.Grammar.{Names, HasNameWithin, IsContiguous}
use Rattle.domain_reading.specs.ParseResult.{MovesPastName, IsErrorOfName, StandsUncompressed, CountsName, CountsFault}
use Rattle.domain_parsed.specs.declared.parsed.ParsedName.{ParsedName}
use Rattle.domain_parsed.specs.ParsedNames.{parsed_octets, parsed_labels, may_be_compressed}

-- A name of at most so many pointers is at the parser's position.
abbrev pub HasNameHere : (limit : ℕ) → Parser → Type 0
HasNameHere limit parser = HasNameWithin limit (message parser) (position parser)

-- It is this name.
abbrev pub IsNameHere : {O : Type 0} {g : Ghosts O} → (limit : ℕ) → Parser → ParsedName O g → Type 0
IsNameHere limit parser name = Names limit (message parser) (position parser) (parsed_labels name)

-- `is_compressed` is false exactly where the octets of the name at the parser's position are contiguous, from its
-- first label on.
abbrev pub TellsCompression : {O : Type 0} {g : Ghosts O} → Parser → ParsedName O g → Type 0
TellsCompression parser name = (may_be_compressed name ≡ false) ↔ IsContiguous (message parser) (position parser)

-- It is the uncompressed name ls, and the parser was moved past its octets.
abbrev pub IsUncompressed : {O : Type 0} {g : Ghosts O} → Parser → Parser → List (List ℕ) → ParsedName O g → Type 0
IsUncompressed old new ls name = (parsed_labels name ≡ ls) × (may_be_compressed name ≡ false) × (position new ≡ position old + length (wire ls))

-- The result is the uncompressed name ls, and no error.
abbrev pub GivesUncompressed : {O E : Type 0} {g : Ghosts O} → Parser → Parser → Result (ParsedName O g) E → List (List ℕ) → Type 0
GivesUncompressed old new result ls = MatchResult result (IsUncompressed old new ls) (λ _. ⊥)

-- An uncompressed name that is at the parser's position is the result.
abbrev pub TakesUncompressed : {O E : Type 0} {g : Ghosts O} → Parser → Parser → Result (ParsedName O g) E → Type 0
TakesUncompressed old new result =
    (ls : List (List ℕ)) → StandsUncompressed old ls → GivesUncompressed old new result ls

-- One was counted for a label, and nothing for none.
abbrev pub CountsLabel : {L : Type 0} → Option L → ℕ → ℕ → Type 0
CountsLabel label before now = MatchOption label (now ≡ before) (λ _. now ≡ before + 1)

-- One was counted for each label and each pointer of the name at the parser's position. Where an error is the result,
-- one was counted for each that was read before it, and one for the label or pointer that can't be read.
abbrev pub CountsHeads : {O : Type 0} {g : Ghosts O} → ℕ → Parser → ℕ → ℕ → Result (ParsedName O g) ParseError → Type 0
CountsHeads limit parser before now result = MatchResult result
    (λ name. CountsName limit (message parser) (position parser) (parsed_labels name) before now)
    (λ e. CountsFault limit (message parser) (position parser) (refusal e) before now)

-- A result is the name at the parser's position, read through at most `limit` pointers, and the parser was moved past
-- it. Nothing is said of an error.
pub record GivesName {O E : Type 0} {g : Ghosts O} (limit : ℕ) (old new : Parser) (result : Result (ParsedName O g) E) : Type 0 where
  pub labels : IfOk result (λ name. Names limit (message old) (position old) (parsed_labels name))
  pub octets : IfOk result (λ name. parsed_octets name ≡ slice_of old)
  pub is_compressed : IfOk result (TellsCompression old)
  pub moves : OnOk result (MovesPastName old new)
  pub uncompressed : (ls : List (List ℕ)) → StandsUncompressed old ls → IfOk result (IsUncompressed old new ls)

-- What `ParsedName::parse` promises, clause by clause, where at most `limit` pointers are followed.
pub record ParsesName {O : Type 0} {g : Ghosts O} (limit : ℕ) (old new : Parser) (result : Result (ParsedName O g) ParseError) : Type 0 where
  pub exact : IsOk result ↔ HasNameWithin limit (message old) (position old)
  pub labels : IfOk result (λ name. Names limit (message old) (position old) (parsed_labels name))
  pub octets : IfOk result (λ name. parsed_octets name ≡ slice_of old)
  pub is_compressed : IfOk result (TellsCompression old)
  pub moves : OnOk result (MovesPastName old new)
  pub uncompressed : (ls : List (List ℕ)) → StandsUncompressed old ls → GivesUncompressed old new result ls
  pub err : IfErr result (IsErrorOfName limit old)
  pub unchanged : OnErr result (new ≡ old)
