-- Bitmaps of types (RFC 4034, 4.1.2).
use Rattle.std.specs.Prelude.{◌≡◌, ℕ, ◌+◌, ◌*◌, ◌≤◌, cond, nat_lt, ◌||◌, List, [], ◌∷◌, ◌++◌, map, length, ⊤, Option, None, Some}
use Rattle.domain_dnssec.specs.Bits.{ones}
use Rattle.domain_dnssec.specs.declared.type_bitmaps.TypeBitmapsError.{TypeBitmapsError}
use Rattle.domain_dnssec.specs.declared.type_bitmaps.TypeBitmapsError.TheVariants.{ShortInput, WindowOrder, BitmapLength}

-- the octets of blocks: of each its window, how many octets its bitmap has, and these
abbrev pub blocks_octets : List (ℕ × List ℕ) → List ℕ
blocks_octets [] = []
blocks_octets (b ∷ bs) = b.0 ∷ length b.1 ∷ (b.1 ++ blocks_octets bs)

-- The window of a block is `least` or more, and its bitmap has 1 to 32 octets.
abbrev pub IsBlock : ℕ → ℕ × List ℕ → Type 0
IsBlock least b = (least ≤ b.0) × ((1 ≤ length b.1) × (length b.1 ≤ 32))

-- Each is a block, and the windows ascend from `least` on.
abbrev pub AreBlocks : ℕ → List (ℕ × List ℕ) → Type 0
AreBlocks least [] = ⊤
AreBlocks least (b ∷ bs) = IsBlock least b × AreBlocks (b.0 + 1) bs

-- the octets o are such blocks
abbrev pub HasBlocks : ℕ → List ℕ → Type 0
HasBlocks least o = (bs : List (ℕ × List ℕ)) × (o ≡ blocks_octets bs) × AreBlocks least bs

-- the types whose bits are ones in a bitmap, where n is the type of its first bit
abbrev pub bitmap_types : ℕ → List ℕ → List ℕ
bitmap_types n [] = []
bitmap_types n (octet ∷ octets) = map (λ bit. n + bit) (ones octet) ++ bitmap_types (n + 8) octets

-- the types of blocks: window w has those from 256 w on
abbrev pub blocks_types : List (ℕ × List ℕ) → List ℕ
blocks_types [] = []
blocks_types (b ∷ bs) = bitmap_types (b.0 * 256) b.1 ++ blocks_types bs

-- the least window that may come after blocks
abbrev pub next_window : ℕ → List (ℕ × List ℕ) → ℕ
next_window least [] = least
next_window least (b ∷ bs) = next_window (b.0 + 1) bs

-- What is wrong with the first of blocks whose window is `least` or more: the octets end within it, its window is
-- less, or its bitmap has none or more than 32.
abbrev pub block_fault : ℕ → List ℕ → Option TypeBitmapsError
block_fault least [] = Some ShortInput
block_fault least (window ∷ []) = Some ShortInput
block_fault least (window ∷ len ∷ rest) =
    cond (nat_lt window least) (Some WindowOrder)
    (cond (nat_lt len 1 || nat_lt 32 len) (Some BitmapLength)
    (cond (nat_lt (length rest) len) (Some ShortInput) None))

-- The octets o are no blocks, or none at all: after whole blocks something is wrong with the next one.
pub record NoBlocks (o : List ℕ) (why : TypeBitmapsError) : Type 0 where
  pub before : List (ℕ × List ℕ)
  pub rest : List ℕ
  pub parts : o ≡ blocks_octets before ++ rest
  pub are : AreBlocks 0 before
  pub due : length rest ≡ 0 → length before ≡ 0
  pub none : block_fault (next_window 0 before) rest ≡ Some why

-- Octets begin with a block: its window, its bitmap, and the octets after it.
pub record FirstBlock (least : ℕ) (o : List ℕ) (window : ℕ) (bitmap rest : List ℕ) : Type 0 where
  pub parts : o ≡ window ∷ length bitmap ∷ (bitmap ++ rest)
  pub block : IsBlock least (window, bitmap)
