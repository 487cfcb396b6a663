-- Octets in base32hex without padding (RFC 4648, 7; RFC 5155, 3.3).
use Rattle.std.specs.Prelude.{ℕ, ◌+◌, ◌-◌, ◌*◌, ◌/◌, ◌%◌, ◌<◌, Bool, true, false, ◌==◌, ◌||◌, ◌&&◌, nat_lt, nat_le, if◌then◌else◌, List, [], ◌∷◌, ◌++◌, Option, Some, None}
use Rattle.domain_rdata_text.specs.declared.base32.High.{High}
use Rattle.domain_rdata_text.specs.declared.base32.High.TheVariants as highs
use Rattle.domain_rdata_text.specs.declared.base32.Low.{Low}
use Rattle.domain_rdata_text.specs.declared.base32.Low.TheVariants as lows
use Rattle.domain_rdata_text.specs.Strings.{only_short}
use Rattle.domain_rdata_text.specs.Symbols.{is_digit}

-- the digit of a number below 32, in lower case
abbrev pub base32_digit : ℕ → ℕ
base32_digit n = if nat_lt n 10 then 48 + n else 87 + n

-- ---- shown: the bits of octets from the left, five in a digit

-- The low bits of an octet that no digit has yet are so many.
abbrev pub IsLow : Low → Type 0
IsLow lows.Whole = Unit {0}
IsLow (lows.One b) = b < 2
IsLow (lows.Two b) = b < 4
IsLow (lows.Three b) = b < 8
IsLow (lows.Four b) = b < 16

-- the digits that they make with the next octet
abbrev pub digits_with : Low → ℕ → List ℕ
digits_with lows.Whole c = base32_digit (c / 8) ∷ []
digits_with (lows.One b) c = base32_digit (b * 16 + c / 16) ∷ []
digits_with (lows.Two b) c = base32_digit (b * 8 + c / 32) ∷ base32_digit (c % 32) ∷ []
digits_with (lows.Three b) c = base32_digit (b * 4 + c / 64) ∷ base32_digit (c / 2 % 32) ∷ []
digits_with (lows.Four b) c = base32_digit (b * 2 + c / 128) ∷ base32_digit (c / 4 % 32) ∷ []

-- its bits that no digit has then
abbrev pub low_after : Low → ℕ → Low
low_after lows.Whole c = lows.Three (c % 8)
low_after (lows.One b) c = lows.Four (c % 16)
low_after (lows.Two b) c = lows.Whole
low_after (lows.Three b) c = lows.One (c % 2)
low_after (lows.Four b) c = lows.Two (c % 4)

-- the digit that they make with zeros after them, at the end
abbrev pub last_digit : Low → List ℕ
last_digit lows.Whole = []
last_digit (lows.One b) = base32_digit (b * 16) ∷ []
last_digit (lows.Two b) = base32_digit (b * 8) ∷ []
last_digit (lows.Three b) = base32_digit (b * 4) ∷ []
last_digit (lows.Four b) = base32_digit (b * 2) ∷ []

-- the digits of octets after them
abbrev pub base32_rest : Low → List ℕ → List ℕ
base32_rest l [] = last_digit l
base32_rest l (c ∷ os) = digits_with l c ++ base32_rest (low_after l c) os

-- octets in digits
abbrev pub base32_text : List ℕ → List ℕ
base32_text os = base32_rest lows.Whole os

-- the words of octets: one, or none where there is no octet
abbrev pub base32_in_words : List ℕ → List (List ℕ)
base32_in_words [] = []
base32_in_words (c ∷ os) = base32_text (c ∷ os) ∷ []

-- ---- read

-- whether it is a digit, in either case, and its number
abbrev pub is_base32 : ℕ → Bool
is_base32 c = is_digit c || (nat_le 97 c && nat_le c 118) || (nat_le 65 c && nat_le c 86)

abbrev pub base32_value : ℕ → ℕ
base32_value c = if is_digit c then c - 48 else (if nat_le 97 c && nat_le c 118 then c - 87 else c - 55)

-- The high bits of an octet that were read are so many.
abbrev pub IsHigh : High → Type 0
IsHigh highs.Whole = Unit {0}
IsHigh (highs.One b) = b < 2
IsHigh (highs.Two b) = b < 4
IsHigh (highs.Three b) = b < 8
IsHigh (highs.Four b) = b < 16
IsHigh (highs.Five b) = b < 32
IsHigh (highs.Six b) = b < 64
IsHigh (highs.Seven b) = b < 128

-- octets, and the one that they make with the digit of the number v, where it is whole then
abbrev pub with_digit : List ℕ → High → ℕ → List ℕ
with_digit os highs.Whole v = os
with_digit os (highs.One b) v = os
with_digit os (highs.Two b) v = os
with_digit os (highs.Three b) v = os ++ (b * 32 + v) ∷ []
with_digit os (highs.Four b) v = os ++ (b * 16 + v / 2) ∷ []
with_digit os (highs.Five b) v = os ++ (b * 8 + v / 4) ∷ []
with_digit os (highs.Six b) v = os ++ (b * 4 + v / 8) ∷ []
with_digit os (highs.Seven b) v = os ++ (b * 2 + v / 16) ∷ []

-- the high bits that are read then
abbrev pub high_after : High → ℕ → High
high_after highs.Whole v = highs.Five v
high_after (highs.One b) v = highs.Six (b * 32 + v)
high_after (highs.Two b) v = highs.Seven (b * 32 + v)
high_after (highs.Three b) v = highs.Whole
high_after (highs.Four b) v = highs.One (v % 2)
high_after (highs.Five b) v = highs.Two (v % 4)
high_after (highs.Six b) v = highs.Three (v % 8)
high_after (highs.Seven b) v = highs.Four (v % 16)

-- whether the digits may end: the bits after the last octet are zeros, and fewer than a digit has
abbrev pub may_end : High → Bool
may_end highs.Whole = true
may_end (highs.One b) = b == 0
may_end (highs.Two b) = b == 0
may_end (highs.Three b) = b == 0
may_end (highs.Four b) = b == 0
may_end (highs.Five b) = false
may_end (highs.Six b) = false
may_end (highs.Seven b) = false

-- the octets after octets, and after high bits of one, that the digits of a word are
abbrev pub base32_from : List ℕ → High → List ℕ → Option (List ℕ)
base32_from os h [] = if may_end h then Some os else None
base32_from os h (c ∷ cs) =
    if is_base32 c then base32_from (with_digit os h (base32_value c)) (high_after h (base32_value c)) cs else None

-- the octets, 1 to 255, that a word is
abbrev pub read_base32 : List ℕ → Option (List ℕ)
read_base32 [] = None
read_base32 (c ∷ w) = only_short (base32_from [] highs.Whole (c ∷ w))
