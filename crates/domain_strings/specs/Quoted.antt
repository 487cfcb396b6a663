-- Character strings as text (RFC 1035, 5.1).
use Rattle.std.specs.Prelude.{ℕ, ◌+◌, ◌/◌, ◌%◌, List, [], ◌∷◌, ◌++◌, cond, nat_lt, ◌==◌, ◌||◌}
use Rattle.std.specs.List.{flat_map}

-- A quote and a backslash take a backslash, what isn't printed is a backslash and three decimal digits.
abbrev pub quoted_octet : ℕ → List ℕ
quoted_octet c =
    cond (c == 34 || c == 92) (92 ∷ c ∷ [])
    (cond (nat_lt c 32 || nat_lt 126 c) (92 ∷ (48 + c / 100) ∷ (48 + c / 10 % 10) ∷ (48 + c % 10) ∷ []) (c ∷ []))

-- a string between quotes
abbrev pub quoted : List ℕ → List ℕ
quoted s = 34 ∷ (flat_map quoted_octet s ++ 34 ∷ [])

-- a space, and a string between quotes
abbrev pub spaced_quoted : List ℕ → List ℕ
spaced_quoted s = 32 ∷ quoted s

-- strings between quotes, with a space between two
abbrev pub quoted_strings : List (List ℕ) → List ℕ
quoted_strings [] = []
quoted_strings (s ∷ ss) = quoted s ++ flat_map spaced_quoted ss
