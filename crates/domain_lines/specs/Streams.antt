-- What contracts say of an output: `contents` tells what it holds, where that is known, and `takes` what it becomes by
-- a text.
use Rattle.std.specs.Prelude.{◌≡◌, ◌⊎◌, ℕ, List, [], ◌∷◌, ◌++◌, Option, IfSome}

-- The text, where it is known, and a newline were put into the output.
abbrev pub PutsTextLine : {W : Type 0} → (W → W → List ℕ → Type 0) → Option (List ℕ) → W → W → Type 0
PutsTextLine takes shown old new = IfSome shown (λ text. takes old new (text ++ 10 ∷ []))

-- Reading failed, and the output is as it was; or writing failed.
abbrev pub EitherFailed : {R W : Type 0} → (R → Type 0) → R → (W → Type 0) → W → W → Type 0
EitherFailed ReadingFailed input WritingFailed old new =
    (ReadingFailed input × (new ≡ old)) ⊎ WritingFailed new

-- All that was put into the output was sent on; or nothing was put, and it is as it was.
abbrev pub IsSentIfPut : {W : Type 0} → (W → Type 0) → W → W → Type 0
IsSentIfPut Sent old new = Sent new ⊎ (new ≡ old)
