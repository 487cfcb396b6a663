-- Octets in base32hex without padding (RFC 4648, 7; RFC 5155, 3.3).
use Rattle.std.specs.Prelude.{ℕ, ◌+◌, ◌*◌, ◌/◌, ◌%◌, nat_lt, if◌then◌else◌, List, [], ◌∷◌, ◌++◌, take}

-- the digit of a number below 32, in lower case
abbrev pub base32hex_digit : ℕ → ℕ
base32hex_digit n = if nat_lt n 10 then 48 + n else 87 + n

-- the eight digits of five octets, five bits each
abbrev pub base32hex_group : ℕ → ℕ → ℕ → ℕ → ℕ → List ℕ
base32hex_group a b c d e =
    base32hex_digit (a / 8) ∷ base32hex_digit (a % 8 * 4 + b / 64) ∷ base32hex_digit (b / 2 % 32) ∷ base32hex_digit (b % 2 * 16 + c / 16)
    ∷ base32hex_digit (c % 16 * 2 + d / 128) ∷ base32hex_digit (d / 4 % 32) ∷ base32hex_digit (d % 4 * 8 + e / 32) ∷ base32hex_digit (e % 32) ∷ []

-- the digits of fewer than five octets: the bits of the last that no octet has are zeros (RFC 4648, 6)
abbrev pub base32hex_end : List ℕ → List ℕ
base32hex_end [] = []
base32hex_end (a ∷ []) = take 2 (base32hex_group a 0 0 0 0)
base32hex_end (a ∷ b ∷ []) = take 4 (base32hex_group a b 0 0 0)
base32hex_end (a ∷ b ∷ c ∷ []) = take 5 (base32hex_group a b c 0 0)
base32hex_end (a ∷ b ∷ c ∷ d ∷ []) = take 7 (base32hex_group a b c d 0)
base32hex_end (a ∷ b ∷ c ∷ d ∷ e ∷ os) = []

-- the digits of octets
abbrev pub base32hex_text : List ℕ → List ℕ
base32hex_text [] = []
base32hex_text (a ∷ []) = base32hex_end (a ∷ [])
base32hex_text (a ∷ b ∷ []) = base32hex_end (a ∷ b ∷ [])
base32hex_text (a ∷ b ∷ c ∷ []) = base32hex_end (a ∷ b ∷ c ∷ [])
base32hex_text (a ∷ b ∷ c ∷ d ∷ []) = base32hex_end (a ∷ b ∷ c ∷ d ∷ [])
base32hex_text (a ∷ b ∷ c ∷ d ∷ e ∷ os) = base32hex_group a b c d e ++ base32hex_text os
