-- What contracts say of an output: `contents` tells what it holds, where that is known.
use Rattle.std.specs.Prelude.{◌≡◌, ℕ, List, [], ◌∷◌, ◌++◌, Option, IfSome}
use Rattle.std.specs.Global.{Vec}
use Rattle.std.specs.Io.KnownBytes.{Appends, Keeps, append_known}

-- The output holds what it held, and nothing more.
abbrev pub Stays : {W : Type 0} → (W → Option (List ℕ)) → W → W → Type 0
Stays contents old new = Keeps (contents old) (contents new)

-- These octets are the text, where it is known, and a newline.
abbrev pub IsTextLine : Option (List ℕ) → List ℕ → Type 0
IsTextLine shown octets = IfSome shown (λ text. octets ≡ text ++ 10 ∷ [])

-- The text, where it is known, and a newline stand behind what the output held.
abbrev pub AppendsLine : {W : Type 0} → (W → Option (List ℕ)) → Option (List ℕ) → W → W → Type 0
AppendsLine contents shown old new =
    IfSome shown (λ text. Appends (contents old) (contents new) (text ++ 10 ∷ []))

-- what the output holds, and behind it the lines that aren't written yet
abbrev pub with_lines : {W : Type 0} → (W → Option (List ℕ)) → W → Vec ℕ → Option (List ℕ)
with_lines contents output lines = append_known (contents output) lines.items

-- The text, where it is known, and a newline stand behind that.
abbrev pub BuffersLine : {W : Type 0} → (W → Option (List ℕ)) → Option (List ℕ) → W → Vec ℕ → W → Vec ℕ → Type 0
BuffersLine contents shown old old_lines new new_lines =
    IfSome shown (λ text. Appends (with_lines contents old old_lines) (with_lines contents new new_lines)
    (text ++ 10 ∷ []))

-- The lines that weren't written stand behind what the output held.
abbrev pub AppendsLines : {W : Type 0} → (W → Option (List ℕ)) → W → Vec ℕ → W → Type 0
AppendsLines contents old old_lines new = Appends (contents old) (contents new) old_lines.items
