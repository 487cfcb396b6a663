-- What is known of the types of bitmaps.
use Rattle.std.proofs.Common.{◌≡◌, ℕ, ◌+◌, ◌-◌, ◌*◌, ◌/◌, ◌%◌, ◌<◌, ◌≤◌, false, ◌==◌, cond, nat_lt, List, [], ◌∷◌, ◌++◌, Option, Some, None, refl, subst, arith}
use Rattle.std.specs.Cmp.Lexicographic.{pointwise}
use Rattle.std.specs.List.{AllByRecursion}
use Rattle.std.proofs.lemmas.Bool.{cond_both, eqb-false, ltb-false}
use Rattle.domain_rdata_text.specs.declared.bitmaps.Block.{Block}
use Rattle.domain_rdata_text.specs.declared.bitmaps.Block.TheVariants.{Ended, Window, Bitmap}
use Rattle.domain_rdata_text.specs.Bitmaps.{bitmaps_of, with_bit, with_four, with_octet, IsBlock, block_after, types_in, canonical, types_of_bitmaps}
use Rattle.domain_rdata_text.specs.Laws.{AreOctets}
use Rattle.domain_rdata_text.proofs.Octets.{same_when}
use Rattle.domain_rdata_text.proofs.Strung.{none_some, same_some, cond_some}

-- types of 16 bits
abbrev pub AreTypes : List ℕ → Type 0
AreTypes ts = AllByRecursion (λ t. t < 65536) ts

types_more : (ts : List ℕ) (t : ℕ) → AreTypes ts → t < 65536 → AreTypes (ts ++ t ∷ [])
types_more [] t h low = (low, tt)
types_more (u ∷ ts) t h low = (h.0, types_more ts t h.1 low)

bit_low : (ts : List ℕ) (t n : ℕ) → AreTypes ts → t < 65536 → AreTypes (with_bit ts t n)
unfolding with_bit
bit_low ts t n h low = cond_both (n % 2 == 1) (ts ++ t ∷ []) ts AreTypes (λ e. types_more ts t h low) (λ e. h)

four_low : (ts : List ℕ) (t n : ℕ) → AreTypes ts → t + 4 ≤ 65536 → AreTypes (with_four ts t n)
unfolding with_four
four_low ts t n h fits =
    let a = with_bit ts t (n / 8) in
    let b = with_bit a (t + 1) (n / 4) in
    let d = with_bit b (t + 2) (n / 2) in
    let ha : AreTypes a = bit_low ts t (n / 8) h (omega (arith, fits)) in
    let hb : AreTypes b = bit_low a (t + 1) (n / 4) ha (omega (arith, fits)) in
    let hd : AreTypes d = bit_low b (t + 2) (n / 2) hb (omega (arith, fits)) in
    bit_low d (t + 3) n hd (omega (arith, fits))

octet_low : (ts : List ℕ) (t c : ℕ) → AreTypes ts → t + 8 ≤ 65536 → AreTypes (with_octet ts t c)
unfolding with_octet
octet_low ts t c h fits =
    four_low (with_four ts t (c / 16)) (t + 4) (c % 16) (four_low ts t (c / 16) h (omega (arith, fits))) (omega (arith, fits))

-- ---- what is read of a block
after_fits : (t k : ℕ) → 0 < k → t + 8 * k ≤ 65536 → IsBlock (block_after t k)
after_fits t k some fits = cond_both (k == 1) Ended (Bitmap (t + 8) (k - 1)) IsBlock
    (λ e. tt)
    (λ e. (omega (arith, some, eqb-false k 1 e), omega (arith, some, fits, eqb-false k 1 e)))

bitmap_fits : (w c : ℕ) → w < 256 → nat_lt c 1 ≡ false → nat_lt 32 c ≡ false → IsBlock (Bitmap (w * 256) c)
bitmap_fits w c low some few = (omega (arith, ltb-false c 1 some), omega (arith, low, ltb-false 32 c few))

-- the types of blocks have 16 bits
all_types : (os ts : List ℕ) (b : Block) (us : List ℕ) → AreOctets os → AreTypes ts → IsBlock b → types_in ts b os ≡ Some us → AreTypes us
all_types [] ts Ended us a h i e = subst (λ (x : List ℕ). AreTypes x) (same_some ts us e) h
all_types [] ts (Window w) us a h i e = absurd (none_some us e)
all_types [] ts (Bitmap t k) us a h i e = absurd (none_some us e)
all_types (c ∷ os) ts Ended us a h i e = all_types os ts (Window c) us a.1 h a.0 e
all_types (c ∷ os) ts (Window w) us a h i e =
    let more = types_in ts (Bitmap (w * 256) c) os in
    cond_some (nat_lt c 1) None (cond (nat_lt 32 c) None more) us (AreTypes us)
    (λ x f. absurd (none_some us f))
    (λ x f. cond_some (nat_lt 32 c) None more us (AreTypes us)
    (λ y g. absurd (none_some us g))
    (λ y g. all_types os ts (Bitmap (w * 256) c) us a.1 h (bitmap_fits w c i x y) g)
    f)
    e
all_types (c ∷ os) ts (Bitmap t k) us a h i e =
    all_types os (with_octet ts t c) (block_after t k) us a.1 (octet_low ts t c h (omega (arith, i.0, i.1))) (after_fits t k i.0 i.1) e

-- ---- what is known of types whose bitmaps octets are
pub record AreBitmaps (os ts : List ℕ) : Type 0 where
  pub octets : bitmaps_of ts ≡ os
  pub types : AreTypes ts

canonical_are : (os : List ℕ) (o : Option (List ℕ)) (ts : List ℕ) → AreOctets os → types_in [] Ended os ≡ o → canonical os o ≡ Some ts → AreBitmaps os ts
canonical_are os None ts h is e = absurd (none_some ts e)
canonical_are os (Some us) ts h is e =
    cond_some (pointwise ◌==◌ (bitmaps_of us) os) (Some us) None ts (AreBitmaps os ts)
    (λ z f. subst (λ (x : List ℕ). AreBitmaps os x) (same_some us ts f) (record { octets = same_when (bitmaps_of us) os z; types = all_types os [] Ended us h tt tt is }))
    (λ z f. absurd (none_some ts f))
    e

pub are_bitmaps : (os ts : List ℕ) → AreOctets os → types_of_bitmaps os ≡ Some ts → AreBitmaps os ts
are_bitmaps os ts h e = canonical_are os (types_in [] Ended os) ts h refl e

-- without a type there is no octet
pub no_bitmaps : bitmaps_of [] ≡ []
unfolding bitmaps_of
no_bitmaps = refl
