-- What contracts see of the types of bitmaps.
use Rattle.std.specs.Prelude.{ℕ, ◌+◌, List, ◌++◌, map, length}
use Rattle.domain_dnssec.specs.Bits.{ones}
use Rattle.domain_dnssec.specs.TypeBitmaps.{bitmap_types, blocks_types}
use Rattle.domain_dnssec.specs.declared.type_blocks.TypesIter.{TypesIter}

-- the types after the octet at which an iterator is
abbrev pub types_after : TypesIter → List ℕ
types_after it = bitmap_types (it.first + 8) it.bitmap.now ++ blocks_types it.rest.0

-- the types that it has left
abbrev pub types_left : TypesIter → List ℕ
types_left it = map (λ bit. it.first + bit) (ones it.octet) ++ types_after it

-- how many octets are after that at which it is
abbrev pub octets_left : TypesIter → ℕ
octets_left it = length it.bitmap.now + length it.later.now
