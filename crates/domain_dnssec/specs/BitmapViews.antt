-- What contracts see of bitmaps of types.
use Rattle.std.specs.Prelude.{ℕ, List}
use Rattle.octseq.specs.declared.octets.Octets.{Ghosts}
use Rattle.domain_dnssec.specs.TypeBitmaps.{blocks_types}
use Rattle.domain_dnssec.specs.declared.type_bitmaps.TypeBitmaps.{TypeBitmaps}

-- the octets of the blocks
abbrev pub bitmaps_octets : {O : Type 0} {g : Ghosts O} → TypeBitmaps O g → List ℕ
bitmaps_octets {g = g} it = g.octets it.octets

-- what holds them
abbrev pub bitmaps_holder : {O : Type 0} {g : Ghosts O} → TypeBitmaps O g → O
bitmaps_holder it = it.octets

-- the blocks: of each its window and its bitmap
abbrev pub bitmaps_blocks : {O : Type 0} {g : Ghosts O} → TypeBitmaps O g → List (ℕ × List ℕ)
bitmaps_blocks it = it.blocks.0

-- the types that they have
abbrev pub bitmaps_types : {O : Type 0} {g : Ghosts O} → TypeBitmaps O g → List ℕ
bitmaps_types it = blocks_types (bitmaps_blocks it)
