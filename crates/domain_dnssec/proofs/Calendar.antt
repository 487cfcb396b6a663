-- The year, the month and the day of a date are those of its day number.
use Rattle.std.proofs.Common.{◌≡◌, ℕ, zero, suc, ◌+◌, ◌-◌, ◌*◌, ◌/◌, ◌%◌, ◌<◌, ◌≤◌, ◌^◌, ◌⊎◌, inl, inr, Bool, true, false, cond, List, [], ◌++◌, length, replicate, ℤ, pos, negsuc, ◌-ℤ◌, ◌*ℤ◌, ◌≤ℤ◌, ◌<ℤ◌, unsigned_abs, int_le, refl, sym, ap, ◌∙◌, arith, append-nil, append_assoc, to_z, of_z, w8, w16}
use Rattle.std.specs.Fmt.{decimal, padded_integral, format_spec, char_count, styled_decimal}
use Rattle.std.specs.List.{range_with_len, count_by}
use Rattle.std.proofs.lemmas.List.Sums.{sum_by-cons}
use Rattle.std.proofs.lemmas.Int.{ints, by_lt_z}
use Rattle.std.proofs.lemmas.Bool.{cases_lt}
use Rattle.jiff.specs.Types.{Date, DateTime}
use Rattle.jiff_core.specs.Calendar.{days_from_civil, day_count, days_of_years, days_of_months, IsYear}
use Rattle.jiff_core.specs.Date.{epoch_day}
use Rattle.jiff_core.specs.DateTime.{civil_nanos}
use Rattle.jiff_core.proofs.SignedLemmas.{signed_arith, back_small, one_part}
use Rattle.jiff_core.proofs.DateLemmas.{epoch_day-lt, days_from_civil-day}
use Rattle.jiff_core.proofs.CalendarLemmas.{days_in_month_bounds}
use Rattle.jiff_core.proofs.DateTimeLemmas.{civil_nanos-parts, time_nanos_bound}
use Rattle.jiff_fmt.specs.Text.{padded}
use Rattle.domain_dnssec.specs.Times.{has_come, year_of, month_of, day_of, time_text}

-- a hole `{:04}` writes zeros before the number, and `{:02}`
pub filled_four : (n : ℕ) → styled_decimal (format_spec 32 0 4 4 (2 ^ 64 - 1)) n ≡ padded n 4
unfolding padded_integral char_count
filled_four n =
    let zeros : 4 - length (decimal n) - 0 - 0 ≡ 4 - length (decimal n) = omega arith in
    ap (λ k. replicate k 48 ++ (decimal n ++ [])) zeros ∙ ap (λ t. replicate (4 - length (decimal n)) 48 ++ t) (append-nil (decimal n))

pub filled_two : (n : ℕ) → styled_decimal (format_spec 32 0 4 2 (2 ^ 64 - 1)) n ≡ padded n 2
unfolding padded_integral char_count
filled_two n =
    let zeros : 2 - length (decimal n) - 0 - 0 ≡ 2 - length (decimal n) = omega arith in
    ap (λ k. replicate k 48 ++ (decimal n ++ [])) zeros ∙ ap (λ t. replicate (2 - length (decimal n)) 48 ++ t) (append-nil (decimal n))

none : (p : ℕ → Bool) (a n : ℕ) → ((y : ℕ) → a ≤ y → y < a + n → p y ≡ false) → count_by p (range_with_len a n) ≡ 0
none p a zero nay = refl
none p a (suc n) nay =
    let cons = sum_by-cons (λ x. cond (p x) 1 0) a (range_with_len (a + 1) n) in
    let here : cond {A = ℕ} (p a) 1 0 ≡ 0 = ap (λ b. cond b 1 0) (nay a (omega arith) (omega arith)) in
    let rest = none p (a + 1) n (λ y from to. nay y (omega arith) (omega arith)) in
    omega (arith, here, rest, cons)

-- how many of n numbers from a on pass, where those up to k do
count_up_to : (p : ℕ → Bool) (a n k : ℕ) → ((y : ℕ) → a ≤ y → y < a + n → y ≤ k → p y ≡ true) → ((y : ℕ) → a ≤ y → y < a + n → k < y → p y ≡ false) → a ≤ k + 1 → k < a + n → count_by p (range_with_len a n) + a ≡ k + 1
count_up_to p a zero k yea nay low high = omega (arith, low, high)
count_up_to p a (suc n) k yea nay low high =
    let cons = sum_by-cons (λ x. cond (p x) 1 0) a (range_with_len (a + 1) n) in
    elim (cases_lt k a) [
      | inl less ↦
          let here : cond {A = ℕ} (p a) 1 0 ≡ 0 = ap (λ b. cond b 1 0) (nay a (omega arith) (omega arith) less) in
          let rest : count_by p (range_with_len (a + 1) n) ≡ 0 = none p (a + 1) n (λ y from to. nay y (omega arith) (omega arith) (omega arith)) in
          omega (arith, low, less, here, rest, cons)
      | inr more ↦
          let here : cond {A = ℕ} (p a) 1 0 ≡ 1 = ap (λ b. cond b 1 0) (yea a (omega arith) (omega arith) more) in
          let rest = count_up_to p (a + 1) n k (λ y from to. yea y (omega arith) (omega arith)) (λ y from to. nay y (omega arith) (omega arith)) (omega arith) (omega arith) in
          omega (arith, here, rest, cons)
    ]

-- the first day of a month
abbrev first : (y m : ℕ) → y ≤ 9999 → 1 ≤ m → m ≤ 12 → Date
first y m few some last = record { year = pos y; month = m; day = 1; year_in = omega (arith, signed_arith); month_in = (some, last); day_in = (omega arith, omega (arith, days_in_month_bounds (pos y) m)) }

le_true : (a b : ℤ) → a ≤ℤ b → int_le a b ≡ true
le_true a b le = grind (arith, ints)

le_false : (a b : ℤ) → b <ℤ a → int_le a b ≡ false
le_false a b lt = grind (arith, ints)

-- a month of a date has come: its first day isn't after the date
month_come : (d : Date) → days_from_civil d.year d.month 1 ≤ℤ epoch_day d
month_come d = omega (arith, signed_arith, d.day_in, days_from_civil-day d.year d.month 1 d.day (omega arith) d.day_in.0)

-- a month has come where it isn't after that of the date
come : (d : Date) (y m : ℕ) (few : y ≤ 9999) (some : 1 ≤ m) (last : m ≤ 12) → (pos y <ℤ d.year) ⊎ ((pos y ≡ d.year) × (m ≤ d.month)) → days_from_civil (pos y) m 1 ≤ℤ epoch_day d
come d y m few some last (inl less) = omega (arith, signed_arith, epoch_day-lt (first y m few some last) d (inl less))
come d y m few some last (inr (year, upto)) =
    elim (cases_lt m d.month) [
      | inl less ↦ omega (arith, signed_arith, epoch_day-lt (first y m few some last) d (inr (year, inl less)))
      | inr not_less ↦
          let same : m ≡ d.month = omega (arith, upto, not_less) in
          rw (year, same) (month_come d)
    ]

-- later ones haven't
later_not : (d : Date) (y m : ℕ) (few : y ≤ 9999) (some : 1 ≤ m) (last : m ≤ 12) → (d.year <ℤ pos y) ⊎ ((d.year ≡ pos y) × (d.month < m)) → epoch_day d <ℤ days_from_civil (pos y) m 1
later_not d y m few some last (inl less) = epoch_day-lt d (first y m few some last) (inl less)
later_not d y m few some last (inr less) = epoch_day-lt d (first y m few some last) (inr (less.0, inl less.1))

-- 1970 began on day 0, and 2107 begins after each time of 32 bits
ends : (days_from_civil (pos 1970) 1 1 ≡ pos 0) × (days_from_civil (pos 2107) 1 1 ≡ pos 50038)
unfolding days_from_civil day_count days_of_years days_of_months
ends = (refl, refl)

abs_is : (z : ℤ) → pos 0 ≤ℤ z → pos (unsigned_abs z) ≡ z
abs_is (pos n) low = refl
abs_is (negsuc n) low = absurd (omega (arith, signed_arith))

-- the day n lies from 1970 to 2106
years : (d : Date) (n : ℕ) → n ≤ 49710 → epoch_day d ≡ pos n → (pos 1970 ≤ℤ d.year) × (d.year ≤ℤ pos 2106)
years d n few is = (
  by_lt_z d.year (pos 1970) (λ lt. absurd (omega (arith, signed_arith, ends, later_not d 1970 1 (omega arith) (omega arith) (omega arith) (inl lt)))) (λ ge. ge),
  by_lt_z (pos 2107) d.year (λ lt. absurd (omega (arith, signed_arith, ends, come d 2107 1 (omega arith) (omega arith) (omega arith) (inl lt))))
      (λ le. by_lt_z d.year (pos 2107) (λ lt. omega (arith, signed_arith)) (λ ge.
      let same : pos 2107 ≡ d.year = omega (arith, signed_arith) in
      absurd (omega (arith, signed_arith, ends, come d 2107 1 (omega arith) (omega arith) (omega arith) (inr (same, d.month_in.0)))))),
)

-- so far the months have come by the day n of the date, and no further
has : (d : Date) (n y m : ℕ) → y ≤ 9999 → 1 ≤ m → m ≤ 12 → epoch_day d ≡ pos n → (pos y <ℤ d.year) ⊎ ((pos y ≡ d.year) × (m ≤ d.month)) → has_come n y m ≡ true
has d n y m few some last is upto = le_true (days_from_civil (pos y) m 1) (pos n) (rw is at (come d y m few some last upto))

hasnt : (d : Date) (n y m : ℕ) → y ≤ 9999 → 1 ≤ m → m ≤ 12 → epoch_day d ≡ pos n → (d.year <ℤ pos y) ⊎ ((d.year ≡ pos y) × (d.month < m)) → has_come n y m ≡ false
hasnt d n y m few some last is over = le_false (days_from_civil (pos y) m 1) (pos n) (rw is at (later_not d y m few some last over))

-- the year is the last one that has come
pub year_is : (d : Date) (n : ℕ) → n ≤ 49710 → epoch_day d ≡ pos n → year_of n ≡ unsigned_abs d.year
year_is d n few is =
    let y = unsigned_abs d.year in
    let within = years d n few is in
    let year : pos y ≡ d.year = abs_is d.year (omega (arith, signed_arith, within)) in
    let bounds : (1970 ≤ y) × (y ≤ 2106) = omega (arith, signed_arith, within) in
    let counted = count_up_to (λ x. has_come n x 1) 1970 137 y
    (λ x from to upto. has d n x 1 (omega arith) (omega arith) (omega arith) is
    (by_lt_z (pos x) d.year (λ lt. inl lt) (λ ge. inr (omega (arith, signed_arith), d.month_in.0))))
    (λ x from to over. hasnt d n x 1 (omega arith) (omega arith) (omega arith) is (inl (omega (arith, signed_arith))))
    (omega arith) (omega arith) in
    omega (arith, counted)

-- the month is the last one of it that has come
pub month_is : (d : Date) (n : ℕ) → n ≤ 49710 → epoch_day d ≡ pos n → month_of n ≡ d.month
month_is d n few is =
    let within = years d n few is in
    let y = unsigned_abs d.year in
    let year : pos y ≡ d.year = abs_is d.year (omega (arith, signed_arith, within)) in
    let bounds : y ≤ 9999 = omega (arith, signed_arith, within) in
    let counted = count_up_to (has_come n y) 1 12 d.month
    (λ x from to upto. has d n y x bounds from (omega arith) is (inr (year, upto)))
    (λ x from to over. hasnt d n y x bounds from (omega arith) is (inr (sym year, over)))
    (omega arith) (omega (arith, d.month_in)) in
    ap (λ y. count_by (has_come n y) (range_with_len 1 12)) (year_is d n few is) ∙ omega (arith, counted)

pub day_is : (d : Date) (n : ℕ) → n ≤ 49710 → epoch_day d ≡ pos n → day_of n ≡ d.day
day_is d n few is =
    let within = years d n few is in
    let year : pos (unsigned_abs d.year) ≡ d.year = abs_is d.year (omega (arith, signed_arith, within)) in
    let left : pos (n + 1) -ℤ days_from_civil d.year d.month 1 ≡ pos d.day = omega (arith, signed_arith, is, days_from_civil-day d.year d.month 1 d.day (omega arith) d.day_in.0) in
    ap (λ y. unsigned_abs (pos (n + 1) -ℤ days_from_civil (pos y) (month_of n) 1)) (year_is d n few is)
    ∙ ap (λ m. unsigned_abs (pos (n + 1) -ℤ days_from_civil (pos (unsigned_abs d.year)) m 1)) (month_is d n few is)
    ∙ ap (λ y. unsigned_abs (pos (n + 1) -ℤ days_from_civil y d.month 1)) year
    ∙ ap unsigned_abs left

-- the parts of a time of 32 bits
pub parts : (t : DateTime) (s : ℕ) → s < 2 ^ 32 → civil_nanos t ≡ pos s *ℤ pos 1000000000 → (epoch_day t.date ≡ pos (s / 86400)) × (t.time.hour ≡ s % 86400 / 3600) × (t.time.minute ≡ s % 86400 / 60 % 60) × (t.time.second ≡ s % 86400 % 60)
parts t s few is =
    let sum = civil_nanos-parts t in
    let less = time_nanos_bound t.time in
    let day : epoch_day t.date ≡ pos (s / 86400) = omega (arith, signed_arith) in
    let clock : t.time.hour * 3600 + t.time.minute * 60 + t.time.second ≡ s % 86400 = omega (arith, signed_arith, t.time.subsec_in) in
    (day, omega (arith, t.time.hour_in, t.time.minute_in, t.time.second_in), omega (arith, t.time.hour_in, t.time.minute_in, t.time.second_in), omega (arith, t.time.hour_in, t.time.minute_in, t.time.second_in))

-- the text of a date and a time of day, the year without its sign
abbrev pub civil_text : DateTime → List ℕ
civil_text t =
    padded (unsigned_abs t.date.year) 4 ++ (padded t.date.month 2 ++ (padded t.date.day 2
    ++ (padded t.time.hour 2 ++ (padded t.time.minute 2 ++ padded t.time.second 2))))

text_same : (y y2 m m2 d d2 h h2 n n2 s s2 : ℕ) → y ≡ y2 → m ≡ m2 → d ≡ d2 → h ≡ h2 → n ≡ n2 → s ≡ s2
    → padded y 4 ++ (padded m 2 ++ (padded d 2 ++ (padded h 2 ++ (padded n 2 ++ padded s 2)))) ≡ (padded y2 4 ++ (padded m2 2 ++ padded d2 2)) ++ (padded h2 2 ++ (padded n2 2 ++ padded s2 2))
text_same y y2 m m2 d d2 h h2 n n2 s s2 year month day hour minute second =
    rw (year, month, day, hour, minute, second) (ap (λ t. padded y2 4 ++ t) (sym (append_assoc (padded m2 2) (padded d2 2) _)) ∙ sym (append_assoc (padded y2 4) _ _))

-- it is the text of the seconds
pub text_is : (t : DateTime) (s : ℕ) → s < 2 ^ 32 → civil_nanos t ≡ pos s *ℤ pos 1000000000 → civil_text t ≡ time_text s
text_is t s few is =
    let at = parts t s few is in
    let some : s / 86400 ≤ 49710 = omega arith in
    let year = sym (year_is t.date (s / 86400) some at.0) in
    let month = sym (month_is t.date (s / 86400) some at.0) in
    let day = sym (day_is t.date (s / 86400) some at.0) in
    text_same (unsigned_abs t.date.year) _ t.date.month _ t.date.day _ t.time.hour _ t.time.minute _ t.time.second _ year month day at.1 at.2 at.3

-- what six holes write
pub holes : (t : DateTime) (a b c d e f : List ℕ) → a ≡ padded (unsigned_abs t.date.year) 4 → b ≡ padded t.date.month 2 → c ≡ padded t.date.day 2 → d ≡ padded t.time.hour 2 → e ≡ padded t.time.minute 2 → f ≡ padded t.time.second 2
    → a ++ (b ++ (c ++ (d ++ (e ++ f)))) ≡ civil_text t
holes t a b c d e f year month day hour minute second = rw (year, month, day, hour, minute, second) refl

-- the number of a year without its sign, and of another part
pub year_of_bits : (z y : ℤ) (k : ℕ) → k ≡ unsigned_abs (to_z w16 (of_z w16 z)) → z ≡ y → IsYear y → k ≡ unsigned_abs y
year_of_bits z y k told is within =
    told ∙ ap unsigned_abs (back_small w16 z (rw is (omega (arith, signed_arith, within, one_part y))) ∙ is)

pub part_of_bits : (z : ℤ) (n k : ℕ) → k ≡ unsigned_abs (to_z w8 (of_z w8 z)) → z ≡ pos n → n < 128 → k ≡ n
part_of_bits z n k told is few = told ∙ ap unsigned_abs (back_small w8 z (rw is few) ∙ is)
