-- What is reported on the output for errors. `g` is `E.Sink`.
use Rattle.std.specs.Prelude.{◌≡◌, ◌⊎◌, ⊤, ℕ, true, List, [], ◌∷◌, ◌++◌, Option, IfSome}
use Rattle.std.specs.Io.KnownBytes.{IsAtEnd}
use Rattle.domain_lines.specs.declared.streams.Sink.{Ghosts as SinkMembers}
use Rattle.domain_make.specs.Reasons.{line_error_text, make_error_text}
use Rattle.domain_make.specs.Refusals.{StopsAtGiven}
use Rattle.domain_make.specs.declared.error.LineError.{LineError}
use Rattle.domain_make.specs.declared.error.MakeError.{MakeError}
use Rattle.domain_make.specs.declared.error.MakeError.TheVariants.{Line, Read, Write, Memory}

-- Reading, writing or memory failed.
abbrev pub IsFailure : MakeError → Type 0
IsFailure (Line e) = ⊥
IsFailure Read = Unit {0}
IsFailure Write = Unit {0}
IsFailure Memory = Unit {0}

-- The text and a newline were written, and nothing else; or writing them failed.
abbrev pub TellsReason : {E : Type 0} → SinkMembers E → List ℕ → E → E → Type 0
TellsReason g text old new = g.takes old new (text ++ 10 ∷ []) ⊎ g.failed new

-- The same of a text where it is known.
abbrev pub TellsText : {E : Type 0} → SinkMembers E → Option (List ℕ) → E → E → Type 0
TellsText g shown old new = IfSome shown (λ text. TellsReason g text old new)

-- The call reported in this way which line of the given text isn't taken, and why.
abbrev pub TellsLine : {E : Type 0} → Option (List ℕ) → SinkMembers E → E → E → Type 0
TellsLine given g old new = (e : LineError) × StopsAtGiven true given e × TellsReason g (line_error_text e) old new

-- What the error names has failed: reading, and nothing was written; or writing; or memory, after reading failed or
-- all was read, and nothing was written.
abbrev pub HasFailed : {R W : Type 0} → (R → Option (List ℕ)) → (R → Type 0) → R → (W → Type 0) → W → W → MakeError → Type 0
HasFailed remaining ReadingFailed input WritingFailed old new (Line e) = ⊤
HasFailed remaining ReadingFailed input WritingFailed old new Read = ReadingFailed input × (new ≡ old)
HasFailed remaining ReadingFailed input WritingFailed old new Write = WritingFailed new
HasFailed remaining ReadingFailed input WritingFailed old new Memory = (ReadingFailed input ⊎ IsAtEnd (remaining input)) × (new ≡ old)

-- The call reported in this way that reading, writing or memory failed, and that has failed.
abbrev pub TellsFailure : {E : Type 0} → (MakeError → Type 0) → SinkMembers E → E → E → Type 0
TellsFailure Failed g old new = (e : MakeError) × IsFailure e × Failed e × TellsReason g (make_error_text e) old new
