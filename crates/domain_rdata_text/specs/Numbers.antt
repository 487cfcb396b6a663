-- Numbers in decimal digits.
use Rattle.std.specs.Prelude.{ℕ, ◌+◌, ◌*◌, ◌-◌, List, [], ◌∷◌, Option, Some, None, nat_lt, if◌then◌else◌}
use Rattle.domain_rdata_text.specs.Symbols.{is_digit}

-- the number after digits of this value, below a limit at each digit
abbrev pub number_from : ℕ → ℕ → List ℕ → Option ℕ
number_from limit n [] = Some n
number_from limit n (c ∷ cs) =
    if is_digit c then (if nat_lt (n * 10 + (c - 48)) limit then number_from limit (n * 10 + (c - 48)) cs else None) else None

-- the number below a limit that a word is
abbrev pub read_number : ℕ → List ℕ → Option ℕ
read_number limit [] = None
read_number limit (c ∷ cs) = number_from limit 0 (c ∷ cs)
