-- What was written of a message's lines: `contents` tells what an output holds, where that is known.
use Rattle.std.specs.Prelude.{ℕ, ◌<◌, List, [], ◌∷◌, ◌++◌, replicate, Option, IfSome}
use Rattle.std.specs.Global.{Vec}
use Rattle.std.specs.Io.KnownBytes.{Appends}
use Rattle.octseq.specs.Parsing.{message, position}
use Rattle.octseq.specs.declared.parse.Parser.{Parser}
use Rattle.domain_wire.specs.declared.error.ParseError.{ParseError}
use Rattle.domain_tool.specs.declared.entry_kind.EntryKind.{EntryKind}
use Rattle.domain_tool.specs.Lines.{IsLineOf, Lists, NoEntry, IsListing, StopsListing}
use Rattle.std.specs.declared.io.traits.Read.{Ghosts as ReadMembers}
use Rattle.std.specs.declared.io.traits.Write.{Ghosts as WriteMembers}
use Rattle.domain_tool.specs.Outputs.{with_lines}

-- The entry of this kind that is at p and ends before e was written as its line.
abbrev pub WritesEntry : List ℕ → EntryKind → ℕ → ℕ → Option (List ℕ) → Option (List ℕ) → Type 0
WritesEntry m s p e old new = (line : List ℕ) × IsLineOf m s p line e × Appends old new (line ++ 10 ∷ [])

-- The entries of these kinds that are at p and end before e were written as their lines.
abbrev pub WritesEntries : List ℕ → List EntryKind → ℕ → ℕ → Option (List ℕ) → Option (List ℕ) → Type 0
WritesEntries m ss p e old new = (text : List ℕ) × Lists m ss p text e × Appends old new text

-- The first of n entries of a kind were written, and then one isn't there.
pub record WritesUpTo (m : List ℕ) (s : EntryKind) (n p : ℕ) (old new : Option (List ℕ)) (why : ParseError) : Type 0 where
  pub before : ℕ
  pub few : before < n
  pub offset : ℕ
  pub written : WritesEntries m (replicate before s) p offset old new
  pub missing : NoEntry m s offset why

-- The lines of `count` entries of a kind were put behind those that aren't written yet, or written after these. The
-- entries are those from where the parser was to where it is then.
abbrev pub BuffersEntries : {W : Type 0} → EntryKind → ℕ → Parser → Parser → (W → Option (List ℕ)) → W → Vec ℕ → W → Vec ℕ → Type 0
BuffersEntries kind count at after contents old old_lines new new_lines =
    WritesEntries (message at) (replicate count kind) (position at) (position after)
    (with_lines contents old old_lines) (with_lines contents new new_lines)

-- So were those of the first of so many entries of a kind, and then one isn't there.
abbrev pub BuffersUpTo : {W : Type 0} → EntryKind → ℕ → Parser → (W → Option (List ℕ)) → W → Vec ℕ → W → Vec ℕ → ParseError → Type 0
BuffersUpTo kind count at contents old old_lines new new_lines why =
    WritesUpTo (message at) kind count (position at) (with_lines contents old old_lines)
    (with_lines contents new new_lines) why

-- So were those of the message.
abbrev pub BuffersListing : {W : Type 0} → List ℕ → (W → Option (List ℕ)) → W → Vec ℕ → W → Vec ℕ → Type 0
BuffersListing m contents old old_lines new new_lines =
    (text : List ℕ) × IsListing m text
    × Appends (with_lines contents old old_lines) (with_lines contents new new_lines) text

-- So were those before what isn't there of the message.
abbrev pub BuffersPart : {W : Type 0} → List ℕ → (W → Option (List ℕ)) → W → Vec ℕ → W → Vec ℕ → ParseError → Type 0
BuffersPart m contents old old_lines new new_lines why =
    (text : List ℕ) × StopsListing m text why
    × Appends (with_lines contents old old_lines) (with_lines contents new new_lines) text

-- The lines of the message that there is to read were written, and nothing else. `r` is `R.Read`, and `g` is
-- `W.Write`.
abbrev pub ListsGiven : {R W : Type 0} → ReadMembers R → R → WriteMembers W → W → W → Type 0
ListsGiven r input g old new =
    IfSome (r.remaining input)
    (λ m. (text : List ℕ) × IsListing m text × Appends (g.contents old) (g.contents new) text)

-- The same of those before what isn't there of it.
abbrev pub ListsPart : {R W : Type 0} → ReadMembers R → R → WriteMembers W → W → W → ParseError → Type 0
ListsPart r input g old new why =
    IfSome (r.remaining input)
    (λ m. (text : List ℕ) × StopsListing m text why × Appends (g.contents old) (g.contents new) text)
