-- Times as text: year, month, day, hour, minute and second (RFC 4034, 3.2).
use Rattle.std.specs.Prelude.{ℕ, ◌+◌, ◌-◌, ◌/◌, ◌%◌, Bool, pos, int_le, List, ◌++◌, unsigned_abs, ◌-ℤ◌}
use Rattle.std.specs.List.{range_with_len, count_by}
use Rattle.jiff_core.specs.Calendar.{days_from_civil}
use Rattle.jiff_fmt.specs.Text.{padded}

-- The day that is n days after 1 January 1970 isn't before the first one of this month.
abbrev pub has_come : ℕ → ℕ → ℕ → Bool
has_come n year month = int_le (days_from_civil (pos year) month 1) (pos n)

-- the year of that day: the last one from 1970 to 2106 that has come
abbrev pub year_of : ℕ → ℕ
year_of n = 1969 + count_by (λ year. has_come n year 1) (range_with_len 1970 137)

-- its month: the last one of that year that has come
abbrev pub month_of : ℕ → ℕ
month_of n = count_by (has_come n (year_of n)) (range_with_len 1 12)

-- its day of the month, from 1
abbrev pub day_of : ℕ → ℕ
day_of n = unsigned_abs (pos (n + 1) -ℤ days_from_civil (pos (year_of n)) (month_of n) 1)

-- a date as YYYYMMDD
abbrev pub date_text : ℕ → ℕ → ℕ → List ℕ
date_text year month day = padded year 4 ++ (padded month 2 ++ padded day 2)

-- a time of day as HHmmSS, so many seconds after midnight
abbrev pub clock_text : ℕ → List ℕ
clock_text n = padded (n / 3600) 2 ++ (padded (n / 60 % 60) 2 ++ padded (n % 60) 2)

-- the time that is n seconds after 1970 began, before 2107
abbrev pub time_text : ℕ → List ℕ
time_text n =
    let day = n / 86400 in
    date_text (year_of day) (month_of day) (day_of day) ++ clock_text (n % 86400)
