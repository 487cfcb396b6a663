-- What is read at a parser's position.
use Rattle.std.specs.Prelude.{◌≡◌, ℕ, ◌+◌, ◌<◌, ◌⊎◌, List, [], ◌∷◌, ◌++◌, length, slice_range}
use Rattle.std.specs.Int.{w16, from_be_bytes}
use Rattle.octseq.specs.declared.octets.Octets.{Ghosts}
use Rattle.octseq.specs.declared.parse.Parser.{Parser}
use Rattle.octseq.specs.Parsing.{message, position, MovesTo}
use Rattle.domain_wire.specs.declared.error.ParseError.{ParseError}
use Rattle.domain_reading.specs.Faults.{Skips, SkipFault}
use Rattle.domain_reading.specs.Grammar.{EncodingEnds}
use Rattle.domain_reading.specs.declared.fault.NameFault.{NameFault}
use Rattle.domain_parsed.specs.declared.parsed.ParsedName.{ParsedName}
use Rattle.domain_parsed.specs.ParsedNames.{parsed_labels}

-- the two octets after the next two
abbrev pub second_two : Parser → List ℕ
second_two p = slice_range (message p) (position p + 2) (position p + 4)

-- After the name stand this type and this class, and the parser was moved past them.
abbrev pub HasTypeAndClass : Parser → ℕ → ℕ → Parser → Type 0
HasTypeAndClass old rtype class new =
    (e : ℕ) × EncodingEnds (message old) (position old) e
    × (rtype ≡ from_be_bytes w16 (slice_range (message old) e (e + 2)))
    × (class ≡ from_be_bytes w16 (slice_range (message old) (e + 2) (e + 4)))
    × MovesTo old new (e + 4)

-- The parser was moved past the name and four octets.
abbrev pub PassesQuestion : Parser → Parser → Type 0
PassesQuestion old new =
    (e : ℕ) × Skips (message old) (position old) e × (position new ≡ e + 4)

-- There is no name to pass over, or there are fewer than four octets after it.
abbrev pub CannotPass : Parser → Type 0
CannotPass p =
    ((why : NameFault) × SkipFault (message p) (position p) why)
    ⊎ ((e : ℕ) × Skips (message p) (position p) e × (length (message p) < e + 4))

-- This label of the name is right before the root.
abbrev pub IsTopLabel : {O : Type 0} {g : Ghosts O} → ParsedName O g → List ℕ → Type 0
IsTopLabel name label =
    (front : List (List ℕ)) × (root : List ℕ) × (parsed_labels name ≡ front ++ label ∷ root ∷ [])

-- Two values stand one after the other, and the parser was moved past them.
abbrev pub InTurn : {A B : Type 0} → (List ℕ → ℕ → A → ℕ → Type 0) → (List ℕ → ℕ → B → ℕ → Type 0) → Parser → A → B → Parser → Type 0
InTurn first second old a b new =
    (between : ℕ) × first (message old) (position old) a between
    × second (message old) between b (position new)

-- The first isn't there, or the second isn't there after it, and why.
abbrev pub NotInTurn : {A : Type 0} → (List ℕ → ℕ → A → ℕ → Type 0) → (List ℕ → ℕ → ParseError → Type 0) → (List ℕ → ℕ → ParseError → Type 0) → Parser → ParseError → Type 0
NotInTurn {A = A} first no_first no_second p why =
    no_first (message p) (position p) why
    ⊎ ((seen : A) × (between : ℕ) × first (message p) (position p) seen between × no_second (message p) between why)
