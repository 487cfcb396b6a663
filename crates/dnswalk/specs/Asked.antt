-- What the words after the program's name ask for.
use Rattle.std.specs.Prelude.{◌≡◌, ◌⊎◌, List, ℕ, [], ◌∷◌, Option, Bool, true, false, codes, IfSome}
use Rattle.std.specs.Io.KnownBytes.{Keeps}
use Rattle.domain_tool.specs.Numerals.{IsOffsetWord}
use Rattle.dnswalk.specs.Engines.{WritesFollowed}
use Rattle.dnswalk.specs.Hexadecimal.{start, IsHexText, IsHexFault}
use Rattle.domain_lines.specs.Messages.{WritesShown}
use Rattle.dnswalk.specs.declared.hexadecimal.HexError.{HexError}
use Rattle.dnswalk.specs.declared.hexadecimal.HexFault.{HexFault}
use Rattle.dnswalk.specs.declared.engine.Asked.{Asked}
use Rattle.dnswalk.specs.declared.engine.Asked.TheVariants.{Name, Message}

-- The word is this offset in decimal digits, or `message`.
abbrev pub WordAsks : List ℕ → Asked → Type 0
WordAsks word (Name offset) = IsOffsetWord word offset
WordAsks word Message = word ≡ codes "message"

-- The words are one that asks for this, and `--hex` behind it where the message is given in hexadecimal digits.
abbrev pub AsksTo : List (List ℕ) → Asked → Bool → Type 0
AsksTo words asked false = (word : List ℕ) × (words ≡ word ∷ []) × WordAsks word asked
AsksTo words asked true = (word : List ℕ) × (words ≡ word ∷ codes "--hex" ∷ []) × WordAsks word asked

-- The words ask for something.
abbrev pub AsksForSomething : List (List ℕ) → Type 0
AsksForSomething words = (asked : Asked) × (hex : Bool) × AsksTo words asked hex

-- What is given is the message m as it is, or in hexadecimal digits.
abbrev pub IsMessage : Bool → List ℕ → List ℕ → Type 0
IsMessage false given m = m ≡ given
IsMessage true given m = IsHexText given m

-- What was asked for was written: whether it is in the message, and what there is of it.
abbrev pub WritesAsked : Asked → List ℕ → Bool → Option (List ℕ) → Option (List ℕ) → Type 0
WritesAsked (Name offset) m found old new = WritesFollowed m offset found old new
WritesAsked Message m found old new = WritesShown m found old new

-- The message is given, and what was asked for was written of it.
abbrev pub WritesGiven : Asked → Bool → List ℕ → Bool → Option (List ℕ) → Option (List ℕ) → Type 0
WritesGiven asked hex given found old new = (m : List ℕ) × IsMessage hex given m × WritesAsked asked m found old new

-- The words say that the message is in hexadecimal digits, and it isn't. Nothing was written.
abbrev pub NotInDigits : Bool → List ℕ → Option (List ℕ) → Option (List ℕ) → Type 0
NotInDigits hex given old new = (hex ≡ true) × ((fault : HexFault) × (line : ℕ) × (column : ℕ) × IsHexFault start given fault line column) × Keeps old new

-- What was asked for was written; or it isn't in the message, and what there is of it was written, or no message is
-- given.
abbrev pub WritesAnswer : Asked → Bool → List ℕ → Bool → Option (List ℕ) → Option (List ℕ) → Type 0
WritesAnswer asked hex given true old new = WritesGiven asked hex given true old new
WritesAnswer asked hex given false old new = WritesGiven asked hex given false old new ⊎ NotInDigits hex given old new

-- The words say that the message is in hexadecimal digits, and what is given isn't, and why.
abbrev pub LacksDigits : Bool → List ℕ → HexError → Type 0
LacksDigits hex given e = (hex ≡ true) × IsHexFault start given e.fault e.line e.column

-- What was asked for was written of the message. `contents` tells what an output holds, where that is known.
abbrev pub WritesOf : {W : Type 0} → (W → Option (List ℕ)) → Asked → List ℕ → W → W → Bool → Type 0
WritesOf contents asked m old new found = WritesAsked asked m found (contents old) (contents new)

-- The message was written to its end, or all before what can't be shown.
abbrev pub ShowsOf : {W : Type 0} → (W → Option (List ℕ)) → List ℕ → W → W → Bool → Type 0
ShowsOf contents m old new whole = WritesShown m whole (contents old) (contents new)

-- What was asked for was written of the given message, where it is known what is given.
abbrev pub Answers : {W : Type 0} → (W → Option (List ℕ)) → Asked → Bool → Option (List ℕ) → W → W → Bool → Type 0
Answers contents asked hex given old new found =
    IfSome given (λ given. WritesAnswer asked hex given found (contents old) (contents new))

-- The words ask for something, and that was written of the given message.
abbrev pub AnswersWords : {W : Type 0} → List (List ℕ) → Option (List ℕ) → Bool → (W → Option (List ℕ)) → W → W → Type 0
AnswersWords words given found contents old new =
    (asked : Asked) × (hex : Bool) × AsksTo words asked hex × Answers contents asked hex given old new found
