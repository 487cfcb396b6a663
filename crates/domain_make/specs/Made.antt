-- The message that the lines of a text say, and what is written of it.
use Rattle.std.specs.Prelude.{◌≡◌, ℕ, Bool, true, false, cond, List, [], ◌∷◌, ◌++◌, Option, IfSome, codes, ⊤}
use Rattle.std.specs.Io.KnownBytes.{Appends}
use Rattle.domain_message_builder.specs.Reading.{IsMessageOf}
use Rattle.domain_tool.specs.WireText.{hexadecimal}
use Rattle.domain_make.specs.Drafts.{Draft, TextSays}
use Rattle.domain_make.specs.declared.error.LineError.{LineError}
use Rattle.domain_make.specs.declared.error.MakeError.{MakeError}
use Rattle.domain_make.specs.declared.error.MakeError.TheVariants.{Line, Read, Write, Memory}

-- The octets are a message of the header and the entries that the lines of the text say, in their order.
pub record IsMade (text m : List ℕ) : Type 0 where
  pub said : Draft
  pub says : TextSays text said
  pub message : IsMessageOf said.header said.content m

-- a message as it is, or in hexadecimal digits and with a newline
abbrev pub written_form : Bool → List ℕ → List ℕ
written_form hex m = cond hex (hexadecimal m ++ 10 ∷ []) m

-- The message that the lines of the text say was written, and nothing else.
abbrev pub WritesMade : List ℕ → Bool → Option (List ℕ) → Option (List ℕ) → Type 0
WritesMade text hex old new = (m : List ℕ) × IsMade text m × Appends old new (written_form hex m)

-- Octets were written as they are, or in hexadecimal digits and with a newline, and nothing else. `contents` tells
-- what an output holds.
abbrev pub WritesOctets : {W : Type 0} → (W → Option (List ℕ)) → List ℕ → Bool → W → W → Type 0
WritesOctets contents octets hex old new = Appends (contents old) (contents new) (written_form hex octets)

-- The message that the lines of the given text say was written, where it is known what is given, and nothing else.
abbrev pub MakesOf : {W : Type 0} → Option (List ℕ) → Bool → (W → Option (List ℕ)) → W → W → Type 0
MakesOf given hex contents old new =
    IfSome given (λ text. WritesMade text hex (contents old) (contents new))

-- The words are `make`, and `--hex` behind it where the message is to be in hexadecimal digits.
abbrev pub AsksToMake : List (List ℕ) → Bool → Type 0
AsksToMake words false = words ≡ codes "make" ∷ []
AsksToMake words true = words ≡ codes "make" ∷ codes "--hex" ∷ []

-- The words ask for the message that the lines of the given text say, and it was written so.
abbrev pub MakesAsked : {W : Type 0} → List (List ℕ) → Option (List ℕ) → (W → Option (List ℕ)) → W → W → Type 0
MakesAsked words given contents old new = (hex : Bool) × AsksToMake words hex × MakesOf given hex contents old new

-- The error is of a line, and this holds of it.
abbrev pub IfLine : MakeError → (LineError → Type 0) → Type 0
IfLine (Line e) P = P e
IfLine Read P = ⊤
IfLine Write P = ⊤
IfLine Memory P = ⊤

-- The error is of a line, or memory lacked: nothing was read or written.
abbrev pub IsOfText : MakeError → Type 0
IsOfText (Line e) = ⊤
IsOfText Read = ⊥
IsOfText Write = ⊥
IsOfText Memory = ⊤
