-- Character strings as text (RFC 1035, 5.1).
use Rattle.std.specs.Prelude.{ℕ, Bool, List, [], ◌∷◌, ◌++◌, length, Option, Some, None, ◌==◌, ◌||◌, nat_lt, nat_le, if◌then◌else◌}
use Rattle.std.specs.List.{flat_map}
use Rattle.domain_rdata_text.specs.declared.symbols.Symbol.{Symbol}
use Rattle.domain_rdata_text.specs.declared.symbols.Symbol.TheVariants.{Plain, Escaped}
use Rattle.domain_rdata_text.specs.Symbols.{symbols, octet_text}

-- what has a meaning of its own between quotes: a quote and a backslash
abbrev pub is_mark : ℕ → Bool
is_mark c = c == 34 || c == 92

-- what isn't printed
abbrev pub is_hidden : ℕ → Bool
is_hidden c = nat_lt c 32 || nat_lt 126 c

-- an octet between quotes: a quote and a backslash after a backslash, unprinted ones in digits
abbrev pub quoted_octet : ℕ → List ℕ
quoted_octet c = octet_text (is_mark c) (is_hidden c) c

-- octets between quotes
abbrev pub string_text : List ℕ → List ℕ
string_text s = 34 ∷ (flat_map quoted_octet s ++ 34 ∷ [])

-- octets without quotes
abbrev pub bare_from : List ℕ → List Symbol → Option (List ℕ)
bare_from s [] = Some s
bare_from s (Escaped c ∷ ss) = bare_from (s ++ c ∷ []) ss
bare_from s (Plain c ∷ ss) = if c == 34 then None else bare_from (s ++ c ∷ []) ss

-- octets after which no symbol follows
abbrev pub last : List ℕ → List Symbol → Option (List ℕ)
last s [] = Some s
last s (t ∷ ts) = None

-- octets after the first quote, up to the second
abbrev pub quoted_from : List ℕ → List Symbol → Option (List ℕ)
quoted_from s [] = None
quoted_from s (Escaped c ∷ ss) = quoted_from (s ++ c ∷ []) ss
quoted_from s (Plain c ∷ ss) = if c == 34 then last s ss else quoted_from (s ++ c ∷ []) ss

-- the octets of symbols, between quotes or without
abbrev pub string_of_symbols : List Symbol → Option (List ℕ)
string_of_symbols [] = Some []
string_of_symbols (Escaped c ∷ ss) = bare_from [] (Escaped c ∷ ss)
string_of_symbols (Plain c ∷ ss) = if c == 34 then quoted_from [] ss else bare_from [] (Plain c ∷ ss)

-- the same, if there are symbols
abbrev pub string_of_some : Option (List Symbol) → Option (List ℕ)
string_of_some None = None
string_of_some (Some ss) = string_of_symbols ss

-- the octets that a word is the text of
abbrev pub read_quoted : List ℕ → Option (List ℕ)
read_quoted w = string_of_some (symbols w)

-- a character string: at most 255 octets
abbrev pub only_short : Option (List ℕ) → Option (List ℕ)
only_short None = None
only_short (Some s) = if nat_le (length s) 255 then Some s else None

-- the character string that a word is
abbrev pub read_string : List ℕ → Option (List ℕ)
read_string w = only_short (read_quoted w)
