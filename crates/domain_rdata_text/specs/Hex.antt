-- Octets in hexadecimal digits.
use Rattle.std.specs.Prelude.{ℕ, ◌+◌, ◌*◌, ◌-◌, ◌/◌, ◌%◌, ◌<◌, Bool, false, List, [], ◌∷◌, ◌++◌, length, Option, Some, None, Result, Ok, Err, ◌==◌, ◌||◌, ◌&&◌, nat_lt, nat_le, if◌then◌else◌}
use Rattle.std.specs.List.{flat_map}
use Rattle.std.specs.Fmt.{decimal}
use Rattle.domain_rdata_text.specs.declared.error.Fault.{Fault}
use Rattle.domain_rdata_text.specs.declared.error.Reason.TheVariants.{Base16, MissingWord, Number, OctetCount}
use Rattle.domain_rdata_text.specs.declared.hex.Half.{Half}
use Rattle.domain_rdata_text.specs.declared.hex.Half.TheVariants.{Even, High}
use Rattle.domain_rdata_text.specs.Outcome.{fault}
use Rattle.domain_rdata_text.specs.Words.{WordAt}
use Rattle.domain_rdata_text.specs.Symbols.{is_digit}
use Rattle.domain_rdata_text.specs.Numbers.{read_number}
use Rattle.domain_rdata_text.specs.Strings.{only_short}

-- the digit of a number below 16, in lower case
abbrev pub hex_digit : ℕ → ℕ
hex_digit n = if nat_lt n 10 then 48 + n else 87 + n

-- an octet in two digits
abbrev pub hex_octet : ℕ → List ℕ
hex_octet c = hex_digit (c / 16) ∷ hex_digit (c % 16) ∷ []

-- octets in digits
abbrev pub hex_text : List ℕ → List ℕ
hex_text os = flat_map hex_octet os

-- from a to f, and from A to F
abbrev pub is_lower : ℕ → Bool
is_lower c = nat_le 97 c && nat_le c 102

abbrev pub is_upper : ℕ → Bool
is_upper c = nat_le 65 c && nat_le c 70

-- whether it is a hexadecimal digit, and its number
abbrev pub is_hex : ℕ → Bool
is_hex c = is_digit c || is_lower c || is_upper c

abbrev pub hex_value : ℕ → ℕ
hex_value c = if is_digit c then c - 48 else (if is_lower c then c - 87 else c - 55)

-- The first of two digits is one.
abbrev pub IsHalf : Half → Type 0
IsHalf Even = Unit {0}
IsHalf (High n) = n < 16

-- the octets after octets that the digits of a word are, two each
abbrev pub hex_from : List ℕ → Half → List ℕ → Option (List ℕ)
hex_from os Even [] = Some os
hex_from os Even (c ∷ cs) = if is_hex c then hex_from os (High (hex_value c)) cs else None
hex_from os (High n) [] = None
hex_from os (High n) (c ∷ cs) = if is_hex c then hex_from (os ++ (n * 16 + hex_value c) ∷ []) Even cs else None

-- octets in digits, or a hyphen where there is none (RFC 5155, 3.3)
abbrev pub counted_text : List ℕ → List ℕ
counted_text [] = 45 ∷ []
counted_text (c ∷ os) = hex_text (c ∷ os)

-- whether the word is a hyphen
abbrev pub is_hyphen : List ℕ → Bool
is_hyphen [] = false
is_hyphen (c ∷ []) = c == 45
is_hyphen (c ∷ d ∷ w) = false

-- the octets, at most 255, that a word is: a hyphen, or digits
abbrev pub read_counted : List ℕ → Option (List ℕ)
read_counted [] = None
read_counted (c ∷ w) = if is_hyphen (c ∷ w) then Some [] else only_short (hex_from [] Even (c ∷ w))

-- octets that were read of the word at an offset
abbrev pub octets_or_fault : ℕ → Option (List ℕ) → Result (List ℕ) Fault
octets_or_fault offset None = Err (fault offset Base16)
octets_or_fault offset (Some os) = Ok os

-- the octets after octets that words are, each of whole octets
abbrev pub hex_words : Result (List ℕ) Fault → List WordAt → Result (List ℕ) Fault
hex_words (Err f) ws = Err f
hex_words (Ok os) [] = Ok os
hex_words (Ok os) (w ∷ ws) = hex_words (octets_or_fault w.begin (hex_from os Even w.octets)) ws

-- the words of octets: one, or none where there is no octet
abbrev pub hex_in_words : List ℕ → List (List ℕ)
hex_in_words [] = []
hex_in_words (c ∷ os) = hex_text (c ∷ os) ∷ []

-- the word that says that data are octets, `\#` (RFC 3597, 5)
abbrev pub mark : List ℕ
mark = 92 ∷ 35 ∷ []

-- data of any type: the mark, how many octets, and these in digits
abbrev pub generic_words : List ℕ → List (List ℕ)
generic_words os = mark ∷ decimal (length os) ∷ hex_in_words os

-- whether it is the mark
abbrev pub is_mark_word : List ℕ → Bool
is_mark_word [] = false
is_mark_word (a ∷ []) = false
is_mark_word (a ∷ b ∷ []) = a == 92 && b == 35
is_mark_word (a ∷ b ∷ c ∷ w) = false

-- octets, where there are as many as the word at an offset says
abbrev pub counted_octets : ℕ → Option ℕ → Result (List ℕ) Fault → Result (List ℕ) Fault
counted_octets offset None os = Err (fault offset Number)
counted_octets offset (Some n) (Err f) = Err f
counted_octets offset (Some n) (Ok os) = if length os == n then Ok os else Err (fault offset OctetCount)

-- the octets that the words from the mark on are, in a text of n octets
abbrev pub read_generic : ℕ → List WordAt → Result (List ℕ) Fault
read_generic n [] = Err (fault n MissingWord)
read_generic n (m ∷ []) = Err (fault n MissingWord)
read_generic n (m ∷ w ∷ ws) = counted_octets w.begin (read_number 65536 w.octets) (hex_words (Ok []) ws)
