-- What contracts see of a parser: its octets, its position in them, and where they end for it.
use Rattle.std.specs.Prelude.{◌≡◌, ℕ, ◌+◌, ◌<◌, List, length, take, drop, slice_range}
use Rattle.octseq.specs.declared.parse.Parser.{Parser}

-- all octets of the slice
abbrev pub slice_of : Parser → List ℕ
slice_of p = p.octets.now

-- the octets up to the parser's end: no others are ever read
abbrev pub message : Parser → List ℕ
message p = take p.end p.octets.now

-- the position of the next octet, counted from the start of the slice
abbrev pub position : Parser → ℕ
position p = p.pos

-- the remaining octets
abbrev pub left : Parser → List ℕ
left p = drop p.pos (message p)

-- the next n octets
abbrev pub next : Parser → ℕ → List ℕ
next p n = slice_range (message p) p.pos (p.pos + n)

-- fewer than n octets are left
abbrev pub LacksOctets : Parser → ℕ → Type 0
LacksOctets p n = length (message p) < p.pos + n

-- new is old with its position at n; slice and end are the same
pub record MovesTo (old new : Parser) (n : ℕ) : Type 0 where
  pub octets : new.octets ≡ old.octets
  pub end : new.end ≡ old.end
  pub offset : new.pos ≡ n

-- new is old, moved over n octets
abbrev pub MovesOver : Parser → Parser → ℕ → Type 0
MovesOver old new n = MovesTo old new (old.pos + n)
