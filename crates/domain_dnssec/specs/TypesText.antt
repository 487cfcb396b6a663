-- Types as text (RFC 4034, 4.3).
use Rattle.std.specs.Prelude.{ℕ, List, [], ◌∷◌, ◌++◌}
use Rattle.std.specs.List.{flat_map}
use Rattle.domain_header.specs.Rtypes.{rtype_text}

-- a space, and the mnemonic of a type
abbrev pub spaced_type : ℕ → List ℕ
spaced_type n = 32 ∷ rtype_text n

-- the mnemonics of types, with a space between two
abbrev pub types_text : List ℕ → List ℕ
types_text [] = []
types_text (n ∷ ns) = rtype_text n ++ flat_map spaced_type ns
