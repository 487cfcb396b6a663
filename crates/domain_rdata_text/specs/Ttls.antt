-- TTLs (RFC 1035, 5.1): seconds, at most 2^31 - 1 (RFC 2181, 8), or numbers with units.
use Rattle.std.specs.Prelude.{ℕ, ◌+◌, ◌*◌, ◌-◌, ◌<◌, Bool, List, [], ◌∷◌, Option, Some, None, ◌==◌, ◌||◌, nat_lt, if◌then◌else◌}
use Rattle.domain_rdata_text.specs.Numbers.{read_number}
use Rattle.domain_rdata_text.specs.Symbols.{is_digit}
use Rattle.domain_rdata_text.specs.declared.ttl.TtlPart.{TtlPart}
use Rattle.domain_rdata_text.specs.declared.ttl.TtlPart.TheVariants.{Nothing, Digits, Sum, SumAndDigits}

-- the seconds of a unit, w, d, h, m or s in either case; 0 of another octet
abbrev pub unit : ℕ → ℕ
unit c =
    if c == 119 || c == 87 then 604800
    else (if c == 100 || c == 68 then 86400
    else (if c == 104 || c == 72 then 3600
    else (if c == 109 || c == 77 then 60
    else (if c == 115 || c == 83 then 1 else 0))))

-- a number below 2^31
abbrev pub below_limit : ℕ → Option ℕ
below_limit n = if nat_lt n 2147483648 then Some n else None

-- the number n and another digit
abbrev pub more_digits : ℕ → ℕ → Option ℕ
more_digits n c = below_limit (n * 10 + (c - 48))

-- t seconds and n times a unit of u seconds, if it is one
abbrev pub sum : ℕ → ℕ → ℕ → Option ℕ
sum t n u = if u == 0 then None else below_limit (t + n * u)

-- what was read, if there is a number
abbrev pub digits_read : Option ℕ → Option TtlPart
digits_read None = None
digits_read (Some n) = Some (Digits n)

abbrev pub sum_read : Option ℕ → Option TtlPart
sum_read None = None
sum_read (Some t) = Some (Sum t)

abbrev pub both_read : ℕ → Option ℕ → Option TtlPart
both_read t None = None
both_read t (Some n) = Some (SumAndDigits t n)

-- what was read after another octet: a number is digits, and its unit comes after it
abbrev pub step : TtlPart → ℕ → Option TtlPart
step Nothing c = if is_digit c then Some (Digits (c - 48)) else None
step (Digits n) c = if is_digit c then digits_read (more_digits n c) else sum_read (sum 0 n (unit c))
step (Sum t) c = if is_digit c then Some (SumAndDigits t (c - 48)) else None
step (SumAndDigits t n) c = if is_digit c then both_read t (more_digits n c) else sum_read (sum t n (unit c))

-- the seconds of what was read: digits alone are seconds, and there is no number without a unit after one with a unit
abbrev pub seconds_of : TtlPart → Option ℕ
seconds_of Nothing = None
seconds_of (Digits n) = Some n
seconds_of (Sum t) = Some t
seconds_of (SumAndDigits t n) = None

-- the TTL of a word, after what was read of it
abbrev pub ttl_from : Option TtlPart → List ℕ → Option ℕ
ttl_from None cs = None
ttl_from (Some p) [] = seconds_of p
ttl_from (Some p) (c ∷ cs) = ttl_from (step p c) cs

-- the TTL that a word is, in seconds
abbrev pub ttl : List ℕ → Option ℕ
ttl word = ttl_from (Some Nothing) word

-- a number, or else the TTL that a word is
abbrev pub or_ttl : Option ℕ → List ℕ → Option ℕ
or_ttl None word = ttl word
or_ttl (Some n) word = Some n

-- the seconds that a word of record data is: a number of 32 bits in digits, or a TTL with units
abbrev pub read_ttl : List ℕ → Option ℕ
read_ttl word = or_ttl (read_number 4294967296 word) word

-- The numbers that were read are below 2^31.
abbrev pub IsWithin : TtlPart → Type 0
IsWithin Nothing = Unit {0}
IsWithin (Digits n) = n < 2147483648
IsWithin (Sum t) = t < 2147483648
IsWithin (SumAndDigits t n) = (t < 2147483648) × (n < 2147483648)
