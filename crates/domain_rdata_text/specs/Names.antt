-- Names as text of a zone (RFC 1035, 5.1): shown by their labels before the root, and read as octets.
use Rattle.std.specs.Prelude.{ℕ, ◌+◌, ◌-◌, Bool, true, false, List, [], ◌∷◌, ◌++◌, length, Option, Some, None, option_map, ◌==◌, ◌||◌, ◌&&◌, nat_lt, nat_le, if◌then◌else◌}
use Rattle.std.specs.List.{flat_map}
use denote.Bor.{Bor}
use Rattle.domain_label.specs.Wire.{wire, Root}
use Rattle.domain_rdata_text.specs.declared.symbols.Symbol.{Symbol}
use Rattle.domain_rdata_text.specs.declared.symbols.Symbol.TheVariants.{Plain, Escaped}
use Rattle.domain_rdata_text.specs.Symbols.{symbols, octet_text}

-- what has a meaning of its own in a zone: a dot and a backslash, space, semicolon, quote, parentheses, at and dollar
abbrev pub is_special : ℕ → Bool
is_special c = c == 46 || c == 92 || c == 32 || c == 59 || c == 34 || c == 40 || c == 41 || c == 64 || c == 36

-- what isn't printed, or is a space
abbrev pub is_unprinted : ℕ → Bool
is_unprinted c = nat_lt c 33 || nat_lt 126 c

-- an octet of a label: special ones after a backslash, unprinted ones in digits
abbrev pub label_octet : ℕ → List ℕ
label_octet c = octet_text (is_special c) (is_unprinted c) c

-- a label and its dot
abbrev pub label_text : List ℕ → List ℕ
label_text l = flat_map label_octet l ++ 46 ∷ []

-- an absolute name: a dot after each label, the root alone a dot
abbrev pub name_text : List (List ℕ) → List ℕ
name_text [] = 46 ∷ []
name_text (l ∷ ls) = flat_map label_text (l ∷ ls)

-- Each label has 1 to 63 octets, and with an octet before each they have at most so many.
abbrev pub are_labels_in : ℕ → List (List ℕ) → Bool
are_labels_in room [] = true
are_labels_in room (l ∷ ls) =
    if nat_lt 0 (length l) && nat_le (length l) 63 && nat_lt (length l) room then are_labels_in (room - (1 + length l)) ls else false

-- Labels before the root of a name, which has at most 255 octets with the root.
abbrev pub is_name : List (List ℕ) → Bool
is_name ls = are_labels_in 254 ls

-- ---- reading

-- the origin of a call, if it has one: the octets of a name in wire format
abbrev pub origin_octets : Option (Bor (List ℕ)) → Option (List ℕ)
origin_octets origin = option_map (λ octets. octets.now) origin

-- the labels with a dot after each, and the octets of a last one without a dot
pub record NameParts : Type 0 where
  pub labels : List (List ℕ)
  pub last : List ℕ

abbrev pub name_parts : List (List ℕ) → List ℕ → NameParts
name_parts ls l = record { labels = ls; last = l }

-- The parts of the name that symbols are, after labels and octets of the next one. A plain dot ends a label, and there
-- is no plain quote.
abbrev pub parts_from : List (List ℕ) → List ℕ → List Symbol → Option NameParts
parts_from ls l [] = Some (name_parts ls l)
parts_from ls l (Escaped c ∷ ss) = parts_from ls (l ++ c ∷ []) ss
parts_from ls l (Plain c ∷ ss) =
    if c == 46 then parts_from (ls ++ l ∷ []) [] ss else (if c == 34 then None else parts_from ls (l ++ c ∷ []) ss)

-- whether the symbol is the octet c without a backslash
abbrev pub is_plain : ℕ → Symbol → Bool
is_plain c (Plain d) = d == c
is_plain c (Escaped d) = false

-- whether the symbols are that octet alone
abbrev pub is_alone : ℕ → List Symbol → Bool
is_alone c [] = false
is_alone c (s ∷ []) = is_plain c s
is_alone c (s ∷ t ∷ ss) = false

-- the octets of labels and of the end of a name, in at most 255 octets (RFC 1035, 2.3.4)
abbrev pub with_end : List (List ℕ) → List ℕ → Option (List ℕ)
with_end ls end = if are_labels_in (255 - length end) ls then Some (wire ls ++ end) else None

-- an absolute name: one label or more, and the root
abbrev pub absolute : List (List ℕ) → Option (List ℕ)
absolute [] = None
absolute (l ∷ ls) = with_end (l ∷ ls) (wire Root)

-- a relative name goes on with the origin
abbrev pub relative : Option (List ℕ) → List (List ℕ) → Option (List ℕ)
relative None ls = None
relative (Some origin) ls = with_end ls origin

-- an absolute name ends in a dot, and any other is relative
abbrev pub whole_name : Option (List ℕ) → List (List ℕ) → List ℕ → Option (List ℕ)
whole_name origin ls [] = absolute ls
whole_name origin ls (c ∷ l) = relative origin (ls ++ (c ∷ l) ∷ [])

abbrev pub completed : Option (List ℕ) → Option NameParts → Option (List ℕ)
completed origin None = None
completed origin (Some p) = whole_name origin p.labels p.last

-- the octets of the name that symbols are: `@` alone is the origin, and a dot alone is the root
abbrev pub name_of_symbols : Option (List ℕ) → List Symbol → Option (List ℕ)
name_of_symbols origin ss =
    if is_alone 64 ss then origin
    else (if is_alone 46 ss then Some (wire Root) else completed origin (parts_from [] [] ss))

-- the same, if there are symbols
abbrev pub name_of_some : Option (List ℕ) → Option (List Symbol) → Option (List ℕ)
name_of_some origin None = None
name_of_some origin (Some ss) = name_of_symbols origin ss

-- the octets of the name that a word is, with an origin or without (RFC 1035, 5.1)
abbrev pub read_name : Option (List ℕ) → List ℕ → Option (List ℕ)
read_name origin word = name_of_some origin (symbols word)
