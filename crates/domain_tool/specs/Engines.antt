-- What the engines of the program read and write. `given` is what there is to read, where that is known; `r` is
-- `R.Read`, and `g` is `W.Write`.
use Rattle.std.specs.Prelude.{◌≡◌, ℕ, List, [], ◌∷◌, ◌++◌, Option, IfSome, Result, Ok, Err, ⊤, codes}
use Rattle.std.specs.Io.KnownBytes.{Appends}
use Rattle.domain_wire.specs.declared.error.ParseError.{ParseError}
use Rattle.domain_wire.specs.Refusals.{refusal, refusal_text}
use Rattle.domain_builder.specs.ErrorText.{from_str_text}
use Rattle.domain_label.specs.Text.{text_with_final_dot}
use Rattle.domain_reading.specs.Grammar.{Names}
pub use Rattle.domain_tool.specs.NameFaults.{NoNameAt, NoNameWithin}
use Rattle.std.specs.declared.io.traits.Read.{Ghosts as ReadMembers}
use Rattle.std.specs.declared.io.traits.Write.{Ghosts as WriteMembers}
use Rattle.domain_tool.specs.Outputs.{Stays}
use Rattle.domain_tool.specs.declared.tool.ToolError.{ToolError}
use Rattle.domain_tool.specs.declared.tool.ToolError.TheVariants.{Parse, Text, Read, Write, Memory}

-- The name at p in m, through at most n pointers, was written, with a final dot and a newline, and nothing
-- else.
abbrev pub WritesNameWithin : ℕ → List ℕ → ℕ → Option (List ℕ) → Option (List ℕ) → Type 0
WritesNameWithin n m p old new = (ls : List (List ℕ)) × Names n m p ls × Appends old new (text_with_final_dot ls ++ 10 ∷ [])

-- The name at p of what there is to read, through at most n pointers, was written so.
abbrev pub ShowsWithin : {R W : Type 0} → ℕ → ℕ → ReadMembers R → R → WriteMembers W → W → W → Type 0
ShowsWithin n p r input g old new =
    IfSome (r.remaining input) (λ m. WritesNameWithin n m p (g.contents old) (g.contents new))

-- The same of 255 pointers.
abbrev pub ShowsAt : {R W : Type 0} → ℕ → ReadMembers R → R → WriteMembers W → W → W → Type 0
ShowsAt p r input g old new = ShowsWithin 255 p r input g old new

-- No name of at most n pointers is at p in what is given, and the error says why.
abbrev pub GivenNoName : ℕ → ℕ → Option (List ℕ) → ParseError → Type 0
GivenNoName n p given e = IfSome given (λ m. NoNameWithin n m p e)

-- These octets are all that is given.
abbrev pub AreAllOf : Option (List ℕ) → List ℕ → Type 0
AreAllOf given octets = IfSome given (λ m. octets ≡ m)

-- Where the input couldn't be read, the output holds what it held.
abbrev pub StaysUnread : {W : Type 0} → (W → Option (List ℕ)) → W → W → ToolError → Type 0
StaysUnread contents old new e = (e ≡ Read) → Stays contents old new

-- The engine answered: it did its work, or the input isn't what is asked for.
abbrev pub OnAnswer : Result (Unit {0}) ToolError → Type 0 → Type 0
OnAnswer (Ok done) P = P
OnAnswer (Err (Parse e)) P = P
OnAnswer (Err (Text e)) P = P
OnAnswer (Err Read) P = ⊤
OnAnswer (Err Write) P = ⊤
OnAnswer (Err Memory) P = ⊤

-- The input isn't what is asked for, and P holds of the reason. No text is read here.
abbrev pub IfRefused : Result (Unit {0}) ToolError → (ParseError → Type 0) → Type 0
IfRefused (Ok done) P = ⊤
IfRefused (Err (Parse e)) P = P e
IfRefused (Err (Text e)) P = ⊥
IfRefused (Err Read) P = ⊤
IfRefused (Err Write) P = ⊤
IfRefused (Err Memory) P = ⊤

-- The input isn't what is asked for, or couldn't be read.
abbrev pub OnNoWork : Result (Unit {0}) ToolError → Type 0 → Type 0
OnNoWork (Ok done) P = ⊤
OnNoWork (Err (Parse e)) P = P
OnNoWork (Err (Text e)) P = P
OnNoWork (Err Read) P = P
OnNoWork (Err Write) P = ⊤
OnNoWork (Err Memory) P = ⊤

-- what an error shows
abbrev pub tool_error_text : ToolError → List ℕ
tool_error_text (Parse e) = refusal_text (refusal e)
tool_error_text (Text e) = from_str_text e
tool_error_text Read = codes "reading failed"
tool_error_text Write = codes "writing failed"
tool_error_text Memory = codes "out of memory"
