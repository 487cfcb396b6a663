-- What the words after the program's name ask for, and what is done for them.
use Rattle.std.specs.Prelude.{◌≡◌, ℕ, ◌⊎◌, List, [], ◌∷◌, Option, IfSome, codes, ⊤}
use denote.Bor.{Bor}
use Rattle.std.specs.Io.KnownBytes.{Appends}
use Rattle.std.specs.Str.{chars}
use Rattle.domain_wire.specs.declared.error.ParseError.{ParseError}
use Rattle.domain_builder.specs.declared.error.FromStrError.{FromStrError}
use Rattle.domain_tool.specs.Engines.{NoNameWithin, ShowsWithin}
use Rattle.domain_tool.specs.Lines.{StopsListing}
use Rattle.std.specs.declared.io.traits.Read.{Ghosts as ReadMembers}
use Rattle.std.specs.declared.io.traits.Write.{Ghosts as WriteMembers}
use Rattle.domain_tool.specs.Outputs.{Stays}
use Rattle.domain_tool.specs.WireText.{HasTextFault, ShowsWireOf}
pub use Rattle.domain_tool.specs.WordParts.{texts, AsksAt, AsksWithin}
use Rattle.domain_tool.specs.Written.{ListsGiven}
use Rattle.domain_tool.specs.declared.asked.Asked.{Asked}
use Rattle.domain_tool.specs.declared.asked.Asked.TheVariants.{At, Text as TextOf, List as Lines}
use Rattle.domain_tool.specs.declared.tool.ToolError.{ToolError}
use Rattle.domain_tool.specs.declared.tool.ToolError.TheVariants.{Parse, Text, Read, Write, Memory}

-- The words are `at` and an offset, `text` and any word, or `list`.
abbrev pub AsksPlainly : List (List ℕ) → Asked → Type 0
AsksPlainly words (At offset pointers) = AsksAt words offset pointers
AsksPlainly words (TextOf text) = words ≡ codes "text" ∷ text.now ∷ []
AsksPlainly words Lines = words ≡ codes "list" ∷ []

-- They are one of these, or limit the pointers of the name at an offset.
abbrev pub Asks : List (List ℕ) → Asked → Type 0
Asks words (At offset pointers) = AsksAt words offset pointers ⊎ AsksWithin words offset pointers
Asks words (TextOf text) = words ≡ codes "text" ∷ text.now ∷ []
Asks words Lines = words ≡ codes "list" ∷ []

-- The words ask for something that the program does.
abbrev pub AsksSomething : List (List ℕ) → Type 0
AsksSomething words = (asked : Asked) × Asks words asked

-- What is asked for was written, and nothing else. `r` is `R.Read`, and `g` is `W.Write`.
abbrev pub Writes : {R W : Type 0} → Asked → ReadMembers R → R → WriteMembers W → W → W → Type 0
Writes (At offset pointers) r input g old new = ShowsWithin pointers offset r input g old new
Writes (TextOf text) r input g old new = ShowsWireOf g.contents (chars text.now) old new
Writes Lines r input g old new = ListsGiven r input g old new

-- What is asked for isn't there. Nothing was written, but of a message the lines before the entry that is
-- missing.
abbrev pub Refuses : {R W : Type 0} → Asked → ReadMembers R → R → WriteMembers W → W → W → Type 0
Refuses (At offset pointers) r input g old new = IfSome (r.remaining input) (λ m. (e : ParseError) × NoNameWithin pointers m offset e) × Stays g.contents old new
Refuses (TextOf text) r input g old new = ((e : FromStrError) × HasTextFault (chars text.now) e) × Stays g.contents old new
Refuses Lines r input g old new = IfSome (r.remaining input) (λ m. (text : List ℕ) × (e : ParseError) × StopsListing m text e × Appends (g.contents old) (g.contents new) text)

-- Reading, writing or memory failed, as the error says. Where reading did, nothing was written. The text of a name
-- asks for neither input nor memory, so there writing did. `contents` tells what an output holds, where that is known.
abbrev pub Fails : {W : Type 0} → Asked → (W → Option (List ℕ)) → W → W → ToolError → Type 0
Fails asked contents old new (Parse e) = ⊥
Fails asked contents old new (Text e) = ⊥
Fails asked contents old new Write = ⊤
Fails (At offset pointers) contents old new Read = Stays contents old new
Fails Lines contents old new Read = Stays contents old new
Fails (TextOf text) contents old new Read = ⊥
Fails (At offset pointers) contents old new Memory = ⊤
Fails Lines contents old new Memory = ⊤
Fails (TextOf text) contents old new Memory = ⊥

-- On an error that says what failed.
abbrev pub OnFailure : ToolError → Type 0 → Type 0
OnFailure (Parse e) P = ⊤
OnFailure (Text e) P = ⊤
OnFailure Read P = P
OnFailure Write P = P
OnFailure Memory P = P

-- On an error that says what is wrong with what was asked for.
abbrev pub OnRefusal : ToolError → Type 0 → Type 0
OnRefusal (Parse e) P = P
OnRefusal (Text e) P = P
OnRefusal Read P = ⊤
OnRefusal Write P = ⊤
OnRefusal Memory P = ⊤

-- If the error says what is wrong with what was asked for, that isn't there.
abbrev pub Denies : {R W : Type 0} → Asked → ReadMembers R → R → WriteMembers W → W → W → ToolError → Type 0
Denies asked r input g old new e = OnRefusal e (Refuses asked r input g old new)

-- If the error says what failed, that did.
abbrev pub FailsOn : {W : Type 0} → Asked → (W → Option (List ℕ)) → W → W → ToolError → Type 0
FailsOn asked contents old new e = OnFailure e (Fails asked contents old new e)

-- The words ask for something, and that was written, and nothing else.
abbrev pub DoesAsked : {R W : Type 0} → List (Bor (List ℕ)) → ReadMembers R → R → WriteMembers W → W → W → Type 0
DoesAsked words r input g old new = (asked : Asked) × Asks (texts words) asked × Writes asked r input g old new

-- They do, and it isn't there.
abbrev pub LacksAsked : {R W : Type 0} → List (Bor (List ℕ)) → ReadMembers R → R → WriteMembers W → W → W → Type 0
LacksAsked words r input g old new = (asked : Asked) × Asks (texts words) asked × Refuses asked r input g old new

-- They do, and reading, writing or memory failed.
abbrev pub FailsAsked : {W : Type 0} → List (Bor (List ℕ)) → (W → Option (List ℕ)) → W → W → Type 0
FailsAsked words contents old new =
    (asked : Asked) × Asks (texts words) asked × (e : ToolError) × Fails asked contents old new e
