-- Points in time as text (RFC 4034, 3.2): the seconds since 1970 began, or a date and a time of day in UTC.
use Rattle.std.specs.Prelude.{ℕ, ◌+◌, ◌-◌, ◌*◌, ◌/◌, ◌%◌, Bool, not, ◌==◌, ◌&&◌, ◌||◌, nat_lt, nat_le, if◌then◌else◌, List, [], ◌∷◌, length, slice_index, Option, Some, None}
use Rattle.std.specs.List.{list_all}
use Rattle.domain_rdata_text.specs.Numbers.{read_number}
use Rattle.domain_rdata_text.specs.Symbols.{is_digit}

-- leap years of the Gregorian calendar
abbrev pub is_leap : ℕ → Bool
is_leap y = (y % 4 == 0 && not (y % 100 == 0)) || y % 400 == 0

-- how many days a month of a year has
abbrev pub days_in_month : ℕ → ℕ → ℕ
days_in_month y m =
    if m == 2 then (if is_leap y then 29 else 28) else (if m == 4 || m == 6 || m == 9 || m == 11 then 30 else 31)

-- how many days of the year are before a month
abbrev pub days_before_month : ℕ → ℕ → ℕ
days_before_month y m =
    slice_index (0 ∷ 31 ∷ 59 ∷ 90 ∷ 120 ∷ 151 ∷ 181 ∷ 212 ∷ 243 ∷ 273 ∷ 304 ∷ 334 ∷ []) (m - 1)
    + (if is_leap y && nat_lt 2 m then 1 else 0)

-- how many days are from the beginning of 1970 to a day of a year, the first of which is 0 (POSIX.1-2017, volume 1,
-- 4.16)
abbrev pub days_since_1970 : ℕ → ℕ → ℕ
days_since_1970 y n = n + (y - 1970) * 365 + (y - 1969) / 4 + (y - 1601) / 400 - (y - 1901) / 100

-- a date from 1970 on, and a time of day
abbrev pub is_moment : ℕ → ℕ → ℕ → ℕ → ℕ → ℕ → Bool
is_moment y m d h i s =
    nat_le 1970 y && nat_le 1 m && nat_le m 12 && nat_le 1 d && nat_le d (days_in_month y m) && nat_lt h 24 && nat_lt i 60 && nat_lt s 60

-- a number, if it has at most 32 bits
abbrev pub of_32_bits : ℕ → Option ℕ
of_32_bits n = if nat_lt n 4294967296 then Some n else None

-- the seconds from the beginning of 1970 to a date and a time of day
abbrev pub seconds_to : ℕ → ℕ → ℕ → ℕ → ℕ → ℕ → Option ℕ
seconds_to y m d h i s =
    if is_moment y m d h i s
    then of_32_bits (days_since_1970 y (days_before_month y m + (d - 1)) * 86400 + h * 3600 + i * 60 + s) else None

-- the number of the two digits at an offset
abbrev pub two_digits : List ℕ → ℕ → ℕ
two_digits w at = (slice_index w at - 48) * 10 + (slice_index w (at + 1) - 48)

-- the seconds of 14 digits, YYYYMMDDHHmmSS
abbrev pub read_moment : List ℕ → Option ℕ
read_moment w =
    if list_all is_digit w
    then seconds_to (two_digits w 0 * 100 + two_digits w 2) (two_digits w 4) (two_digits w 6) (two_digits w 8) (two_digits w 10) (two_digits w 12)
    else None

-- the seconds that a word is: 14 digits are a date and a time of day, and others a number
abbrev pub read_time : List ℕ → Option ℕ
read_time w = if length w == 14 then read_moment w else read_number 4294967296 w
