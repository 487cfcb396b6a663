-- Bitmaps of types (RFC 4034, 4.1.2).
use Rattle.std.specs.Prelude.{ℕ, zero, suc, ◌+◌, ◌-◌, ◌*◌, ◌/◌, ◌%◌, ◌<◌, ◌≤◌, Bool, true, false, ◌==◌, ◌&&◌, nat_lt, if◌then◌else◌, List, [], ◌∷◌, ◌++◌, Option, Some, None}
use Rattle.std.specs.Cmp.Lexicographic.{pointwise}
use Rattle.domain_rdata_text.specs.declared.bitmaps.Block.{Block}
use Rattle.domain_rdata_text.specs.declared.bitmaps.Block.TheVariants.{Ended, Window, Bitmap}

-- ---- the bitmaps of types, in any order

-- whether a type is among types
abbrev pub has_type : ℕ → List ℕ → Bool
has_type t [] = false
has_type t (u ∷ us) = if u == t then true else has_type t us

-- the weight v of a bit, if its type t is among types
unfoldable pub weight_of : List ℕ → ℕ → ℕ → ℕ
weight_of ts t v = if has_type t ts then v else 0

-- four bits, of which the first is that of the type t
unfoldable pub four_of : List ℕ → ℕ → ℕ
four_of ts t = weight_of ts t 8 + weight_of ts (t + 1) 4 + weight_of ts (t + 2) 2 + weight_of ts (t + 3) 1

-- an octet, whose high bit is that of the type t
unfoldable pub octet_of : List ℕ → ℕ → ℕ
octet_of ts t = four_of ts t * 16 + four_of ts (t + 4)

-- the types of the window w
abbrev pub of_window : ℕ → List ℕ → List ℕ
of_window w [] = []
of_window w (t ∷ ts) = if t / 256 == w then t ∷ of_window w ts else of_window w ts

-- n octets, of which the first has the bit of the type t
abbrev pub bitmap : List ℕ → ℕ → ℕ → List ℕ
bitmap ts t zero = []
bitmap ts t (suc n) = bitmap ts t n ++ octet_of ts (t + 8 * n) ∷ []

-- how many octets the bitmap of the window w has with a type, if it has n without: up to that with the type's bit
abbrev pub len_with : ℕ → ℕ → ℕ → ℕ
len_with n w t = if t / 256 == w && nat_lt n (t % 256 / 8 + 1) then t % 256 / 8 + 1 else n

-- and with types: trailing zero octets are omitted
abbrev pub bitmap_len : ℕ → ℕ → List ℕ → ℕ
bitmap_len n w [] = n
bitmap_len n w (t ∷ ts) = bitmap_len (len_with n w t) w ts

-- the block of a window whose bitmap has n octets; a block without a type isn't included
abbrev pub block_of_len : List ℕ → ℕ → ℕ → List ℕ
block_of_len ts w n = if n == 0 then [] else w ∷ n ∷ bitmap ts (w * 256) n

abbrev pub block : List ℕ → ℕ → List ℕ
block ts w = block_of_len ts w (bitmap_len 0 w ts)

-- the blocks of the windows below n, in ascending order
abbrev pub blocks : List ℕ → ℕ → List ℕ
blocks ts zero = []
blocks ts (suc n) = blocks ts n ++ block ts n

-- how many windows there are up to that of a type, and no fewer than n
abbrev pub windows_with : ℕ → ℕ → ℕ
windows_with n t = if nat_lt n (t / 256 + 1) then t / 256 + 1 else n

-- up to that of the highest type
abbrev pub window_count : ℕ → List ℕ → ℕ
window_count n [] = n
window_count n (t ∷ ts) = window_count (windows_with n t) ts

-- the octets of the bitmaps of types
unfoldable pub bitmaps_of : List ℕ → List ℕ
bitmaps_of ts = blocks ts (window_count 0 ts)

-- ---- the types of bitmaps

-- types, and t after them, if the last bit of n is a one
unfoldable pub with_bit : List ℕ → ℕ → ℕ → List ℕ
with_bit ts t n = if n % 2 == 1 then ts ++ t ∷ [] else ts

-- those of the last four bits of n, of which the first is that of the type t
unfoldable pub with_four : List ℕ → ℕ → ℕ → List ℕ
with_four ts t n = with_bit (with_bit (with_bit (with_bit ts t (n / 8)) (t + 1) (n / 4)) (t + 2) (n / 2)) (t + 3) n

-- those of an octet, whose high bit is that of the type t
unfoldable pub with_octet : List ℕ → ℕ → ℕ → List ℕ
with_octet ts t c = with_four (with_four ts t (c / 16)) (t + 4) (c % 16)

-- A bitmap has octets to come, and types of 16 bits.
abbrev pub IsBlock : Block → Type 0
IsBlock Ended = Unit {0}
IsBlock (Window w) = w < 256
IsBlock (Bitmap t k) = (0 < k) × (t + 8 * k ≤ 65536)

-- what is read after one of k octets of a bitmap, whose first bit is that of the type t
abbrev pub block_after : ℕ → ℕ → Block
block_after t k = if k == 1 then Ended else Bitmap (t + 8) (k - 1)

-- The types of blocks, after types and what was read of a block: nothing; its window; or this and its length, 1 to 32,
-- where k octets are to come, and the first bit of the next is that of the type t.
abbrev pub types_in : List ℕ → Block → List ℕ → Option (List ℕ)
types_in ts Ended [] = Some ts
types_in ts Ended (c ∷ os) = types_in ts (Window c) os
types_in ts (Window w) [] = None
types_in ts (Window w) (c ∷ os) = if nat_lt c 1 then None else (if nat_lt 32 c then None else types_in ts (Bitmap (w * 256) c) os)
types_in ts (Bitmap t k) [] = None
types_in ts (Bitmap t k) (c ∷ os) = types_in (with_octet ts t c) (block_after t k) os

-- types that were read of octets, if these are their bitmaps
abbrev pub canonical : List ℕ → Option (List ℕ) → Option (List ℕ)
canonical os None = None
canonical os (Some ts) = if pointwise ◌==◌ (bitmaps_of ts) os then Some ts else None

-- The types of bitmaps, in ascending order. There are none where a block is empty, or a bitmap ends in a zero octet:
-- no types have such octets.
abbrev pub types_of_bitmaps : List ℕ → Option (List ℕ)
types_of_bitmaps os = canonical os (types_in [] Ended os)
