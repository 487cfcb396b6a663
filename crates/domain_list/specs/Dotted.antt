-- A name's octets with a dot in place of each length octet.
use Rattle.std.specs.Prelude.{◌≢◌, ℕ, ◌<◌, List, [], ◌∷◌, ◌++◌}

-- A dot before each label, and its octets.
abbrev pub dotted : List (List ℕ) → List ℕ
dotted [] = []
dotted (l ∷ ls) = 46 ∷ (l ++ dotted ls)

-- An octet that is printed, and no space or backslash.
abbrev pub IsShown : ℕ → Type 0
IsShown c = (32 < c) × (c < 127) × (c ≢ 92)
