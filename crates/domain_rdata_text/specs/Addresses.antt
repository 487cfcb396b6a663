-- IPv4 addresses as text (RFC 1035, 3.4.1).
use Rattle.std.specs.Prelude.{ℕ, List, [], ◌∷◌, ◌++◌, length, Option, Some, None, ◌==◌, if◌then◌else◌}
use Rattle.std.specs.Fmt.{decimal}
use Rattle.domain_rdata_text.specs.Numbers.{read_number}

-- numbers, a dot before each
abbrev pub dotted : List ℕ → List ℕ
dotted [] = []
dotted (n ∷ ns) = 46 ∷ (decimal n ++ dotted ns)

-- numbers, a dot between two
abbrev pub ipv4_text : List ℕ → List ℕ
ipv4_text [] = []
ipv4_text (n ∷ ns) = decimal n ++ dotted ns

-- what is between separators, after pieces and an open one
abbrev pub pieces_from : ℕ → List (List ℕ) → List ℕ → List ℕ → List (List ℕ)
pieces_from sep ps p [] = ps ++ p ∷ []
pieces_from sep ps p (c ∷ cs) = if c == sep then pieces_from sep (ps ++ p ∷ []) [] cs else pieces_from sep ps (p ++ c ∷ []) cs

-- numbers, and one more
abbrev pub with_number : List ℕ → Option ℕ → Option (List ℕ)
with_number ns None = None
with_number ns (Some n) = Some (ns ++ n ∷ [])

-- the numbers below 256 after numbers that pieces are
abbrev pub octets_from : Option (List ℕ) → List (List ℕ) → Option (List ℕ)
octets_from None ps = None
octets_from (Some ns) [] = Some ns
octets_from (Some ns) (p ∷ ps) = octets_from (with_number ns (read_number 256 p)) ps

-- numbers, if they are four
abbrev pub only_four : Option (List ℕ) → Option (List ℕ)
only_four None = None
only_four (Some ns) = if length ns == 4 then Some ns else None

-- the address that a word is
abbrev pub read_ipv4 : List ℕ → Option (List ℕ)
read_ipv4 word = only_four (octets_from (Some []) (pieces_from 46 [] [] word))
