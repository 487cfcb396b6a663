-- What the program writes of a name that it follows.
use Rattle.std.specs.Prelude.{◌≡◌, ℕ, ◌≤◌, List, [], ◌∷◌, ◌++◌, Option, Bool, true, false}
use Rattle.std.specs.Io.KnownBytes.{Appends}
use Rattle.domain_wire.specs.Refusals.{refusal_text}
use Rattle.domain_label.specs.Text.{text_with_final_dot}
use Rattle.domain_reading.specs.Grammar.{Names}
use Rattle.domain_reading.specs.Faults.{NameFaultAt, error_of}
use Rattle.domain_reading.specs.declared.fault.NameFault.{NameFault}
use Rattle.domain_reading.specs.Limits.{max_pointers, max_heads}
use Rattle.dnswalk.specs.Following.{FollowedThrough}
pub use Rattle.dnswalk.specs.Lines.{count_text}

-- The last line: the name at p with its final dot, or the reason why there is none, and how many labels and pointers
-- were read.
abbrev pub IsLastLine : List ℕ → ℕ → Bool → ℕ → List ℕ → Type 0
IsLastLine m p true count last = (ls : List (List ℕ)) × Names max_pointers m p ls × (last ≡ text_with_final_dot ls ++ count_text count)
IsLastLine m p false count last = (f : NameFault) × NameFaultAt max_pointers m p f × (last ≡ refusal_text (error_of f) ++ count_text count)

-- A line was written for each label and pointer read from p on, at most `max_heads`, and a last line with the name or
-- the reason why there is none.
pub record WritesFollowed (m : List ℕ) (p : ℕ) (found : Bool) (old new : Option (List ℕ)) : Type 0 where
  pub lines : List ℕ
  pub last : List ℕ
  pub count : ℕ
  pub few : count ≤ max_heads
  pub followed : FollowedThrough m p lines count
  pub ends : IsLastLine m p found count last
  pub appends : Appends old new (lines ++ (last ++ 10 ∷ []))

-- The same of an output: `contents` tells what it holds, where that is known.
abbrev pub FollowsName : {W : Type 0} → (W → Option (List ℕ)) → List ℕ → ℕ → W → W → Bool → Type 0
FollowsName contents m p old new found = WritesFollowed m p found (contents old) (contents new)

-- A line was written for each label and pointer read from p on, and so many were read.
abbrev pub StepLines : {W : Type 0} → (W → Option (List ℕ)) → List ℕ → ℕ → W → W → ℕ → Type 0
StepLines contents m p old new count =
    (lines : List ℕ) × FollowedThrough m p lines count × Appends (contents old) (contents new) lines
