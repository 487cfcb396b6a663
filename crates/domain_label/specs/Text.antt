-- Labels and names in presentation format, as text that is written (RFC 1035, 5.1).
use Rattle.std.specs.Prelude.{ℕ, ◌+◌, ◌/◌, ◌%◌, List, [], ◌∷◌, ◌++◌, cond, nat_lt, ◌==◌, ◌||◌}
use Rattle.std.specs.List.{flat_map}

-- Space, dot and backslash take a backslash, what isn't printed is a backslash and three decimal digits.
abbrev pub escaped_octet : ℕ → List ℕ
escaped_octet c =
    cond (c == 32 || c == 46 || c == 92) (92 ∷ c ∷ [])
    (cond (nat_lt c 32 || nat_lt 126 c) (92 ∷ (48 + c / 100) ∷ (48 + c / 10 % 10) ∷ (48 + c % 10) ∷ []) (c ∷ []))

-- the octets of a label as text (RFC 1035, 5.1)
abbrev pub escaped : List ℕ → List ℕ
escaped = flat_map escaped_octet

-- A label and a dot after it; the root label is nothing.
abbrev pub with_dot : List ℕ → List ℕ
with_dot [] = []
with_dot (c ∷ l) = escaped (c ∷ l) ++ 46 ∷ []

-- a text, or a dot in place of the empty one
abbrev pub or_dot : List ℕ → List ℕ
or_dot [] = 46 ∷ []
or_dot (c ∷ t) = c ∷ t

-- Each label and a dot after it; the root alone is a dot.
abbrev pub text_with_final_dot : List (List ℕ) → List ℕ
text_with_final_dot ls = or_dot (flat_map with_dot ls)

-- A dot before each label that isn't the root.
abbrev pub dot_before : List ℕ → List ℕ
dot_before [] = []
dot_before (c ∷ l) = 46 ∷ escaped (c ∷ l)

-- The labels joined by dots; the root is left out.
abbrev pub text : List (List ℕ) → List ℕ
text [] = []
text (l ∷ ls) = escaped l ++ flat_map dot_before ls

-- What an absolute name in contiguous octets shows: its text, and the root a dot.
abbrev pub displayed : List (List ℕ) → List ℕ
displayed ls = or_dot (text ls)
