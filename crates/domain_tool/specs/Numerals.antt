-- Numbers that a word is.
use Rattle.std.specs.Prelude.{◌≡◌, ℕ, ◌^◌, ◌<◌, ◌≤◌, List, length}
use Rattle.std.specs.Str.Parse.{IsNumeral, digits_value}

-- The word is the number in one to so many decimal digits, and the number has at most so many bits.
pub record IsNumberWord (digits bits : ℕ) (word : List ℕ) (n : ℕ) : Type 0 where
  pub short : length word ≤ digits
  pub numeral : IsNumeral 10 word
  pub number : n ≡ digits_value 10 word
  pub small : n < 2 ^ bits

-- An offset: at most ten digits, and at most 4,294,967,295.
abbrev pub IsOffsetWord : List ℕ → ℕ → Type 0
IsOffsetWord word offset = IsNumberWord 10 32 word offset

-- A number of pointers: at most three digits, and at most 255.
abbrev pub IsLimitWord : List ℕ → ℕ → Type 0
IsLimitWord word pointers = IsNumberWord 3 8 word pointers
