-- Symbols of a word: octets as they stand, and octets without a special meaning (RFC 1035, 5.1).
use Rattle.std.specs.Prelude.{ℕ, ◌+◌, ◌*◌, ◌-◌, ◌/◌, ◌%◌, Bool, true, false, List, [], ◌∷◌, ◌++◌, Option, Some, None, ◌==◌, ◌&&◌, nat_lt, nat_le, if◌then◌else◌}
use Rattle.domain_rdata_text.specs.declared.symbols.Symbol.{Symbol}
use Rattle.domain_rdata_text.specs.declared.symbols.Symbol.TheVariants.{Plain, Escaped}
use Rattle.domain_rdata_text.specs.declared.symbols.Part.{Part}
use Rattle.domain_rdata_text.specs.declared.symbols.Part.TheVariants.{Whole, Slash, One, Two}

-- whether it is a decimal digit
abbrev pub is_digit : ℕ → Bool
is_digit c = nat_le 48 c && nat_le c 57

-- The symbols of a text, after symbols and a part of an escape: a backslash takes the special meaning from an octet
-- that is no digit, and before three digits it is the octet of that number, at most 255.
abbrev pub symbols_from : List Symbol → Part → List ℕ → Option (List Symbol)
symbols_from ss Whole [] = Some ss
symbols_from ss Whole (c ∷ cs) = if c == 92 then symbols_from ss Slash cs else symbols_from (ss ++ Plain c ∷ []) Whole cs
symbols_from ss Slash [] = None
symbols_from ss Slash (c ∷ cs) = if is_digit c then symbols_from ss (One (c - 48)) cs else symbols_from (ss ++ Escaped c ∷ []) Whole cs
symbols_from ss (One n) [] = None
symbols_from ss (One n) (c ∷ cs) = if is_digit c then symbols_from ss (Two (n * 10 + (c - 48))) cs else None
symbols_from ss (Two n) [] = None
symbols_from ss (Two n) (c ∷ cs) =
    if is_digit c then (if nat_lt (n * 10 + (c - 48)) 256 then symbols_from (ss ++ Escaped (n * 10 + (c - 48)) ∷ []) Whole cs else None) else None

-- the symbols of a text
abbrev pub symbols : List ℕ → Option (List Symbol)
symbols text = symbols_from [] Whole text

-- an octet after a backslash
abbrev pub with_slash : ℕ → List ℕ
with_slash c = 92 ∷ c ∷ []

-- an octet as a backslash and its number in three digits
abbrev pub in_digits : ℕ → List ℕ
in_digits c = 92 ∷ (48 + c / 100) ∷ (48 + c / 10 % 10) ∷ (48 + c % 10) ∷ []

-- an octet as text: after a backslash, or else in digits, or else as it stands
abbrev pub octet_text : Bool → Bool → ℕ → List ℕ
octet_text true unprinted c = with_slash c
octet_text false true c = in_digits c
octet_text false false c = c ∷ []
