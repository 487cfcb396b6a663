-- What `name_text` writes, and when it fails.
use Rattle.std.specs.Prelude.{ℕ, ◌/◌, ◌%◌, List, [], ◌∷◌, ◌++◌, Option, Result, Ok, Err, MatchResult, ⊤}
use Rattle.std.specs.Io.KnownBytes.{Appends}
use Rattle.std.specs.List.{flat_map}
use Rattle.domain_label.specs.Hex.{hex_digit}
use Rattle.domain_label.specs.Wire.{wire}
use Rattle.domain_builder.specs.TextGrammar.{IsTextOfName, IsTextOfNoName}
use Rattle.domain_builder.specs.TextErrors.{MatchFromStr, IsErrorOfText}
use Rattle.domain_builder.specs.declared.error.FromStrError.{FromStrError}
use Rattle.domain_builder.specs.declared.name_symbol.TextFault.{TextFault}
use Rattle.domain_tool.specs.declared.tool.ToolError.{ToolError}
use Rattle.domain_tool.specs.declared.tool.ToolError.TheVariants.{Parse, Text, Read, Write, Memory}

-- an octet in two lower case digits, the high one first
abbrev pub octet_digits : ℕ → List ℕ
octet_digits n = hex_digit (n / 16) ∷ hex_digit (n % 16) ∷ []

-- each octet in two lower case digits
abbrev pub hexadecimal : List ℕ → List ℕ
hexadecimal octets = flat_map octet_digits octets

-- The characters are the text of a name (RFC 1035, 5.1). Its wire format was written in hexadecimal
-- digits, with a newline, and nothing else.
abbrev pub WritesWireOf : List ℕ → Option (List ℕ) → Option (List ℕ) → Type 0
WritesWireOf cs old new = (ls : List (List ℕ)) × IsTextOfName cs ls × Appends old new (hexadecimal (wire ls) ++ 10 ∷ [])

-- The same of an output: `contents` tells what it holds, where that is known.
abbrev pub ShowsWireOf : {W : Type 0} → (W → Option (List ℕ)) → List ℕ → W → W → Type 0
ShowsWireOf contents cs old new = WritesWireOf cs (contents old) (contents new)

-- The characters are the text of no name, and the error is their first.
abbrev pub HasTextFault : List ℕ → FromStrError → Type 0
HasTextFault cs e = MatchFromStr e (IsTextOfNoName cs) ⊥

-- If the characters have a fault as the text of a name, that is the error.
abbrev pub TellsTextFault : {N : Type 0} → List ℕ → Result N FromStrError → Type 0
TellsTextFault cs result = (f : TextFault) → IsTextOfNoName cs f → MatchResult result (λ _. ⊥) (IsErrorOfText f)

-- The text is none of a name, and P holds of the reason; or the output couldn't be written. Nothing else fails.
abbrev pub IfTextRefused : Result (Unit {0}) ToolError → (FromStrError → Type 0) → Type 0
IfTextRefused (Ok done) P = ⊤
IfTextRefused (Err (Parse e)) P = ⊥
IfTextRefused (Err (Text e)) P = P e
IfTextRefused (Err Read) P = ⊥
IfTextRefused (Err Write) P = ⊤
IfTextRefused (Err Memory) P = ⊥

-- The text is none of a name, for this reason.
abbrev pub RefusesText : Result (Unit {0}) ToolError → (FromStrError → Type 0) → Type 0
RefusesText (Ok done) P = ⊥
RefusesText (Err (Parse e)) P = ⊥
RefusesText (Err (Text e)) P = P e
RefusesText (Err Read) P = ⊥
RefusesText (Err Write) P = ⊥
RefusesText (Err Memory) P = ⊥

-- If the characters have a fault as the text of a name, they are refused for it.
abbrev pub RefusesFault : List ℕ → Result (Unit {0}) ToolError → Type 0
RefusesFault cs result = (f : TextFault) → IsTextOfNoName cs f → RefusesText result (IsErrorOfText f)
