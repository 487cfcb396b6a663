-- What is found in the bitmaps of types.
use Rattle.std.proofs.Common.{◌≡◌, ◌∙◌, ℕ, zero, suc, ◌+◌, ◌-◌, ◌*◌, ◌/◌, ◌%◌, ◌<◌, ◌≤◌, Bool, true, false, ◌==◌, ◌&&◌, cond, nat_lt, List, [], ◌∷◌, ◌++◌, Some, None, refl, sym, ap, append_assoc, append-nil, arith}
use Rattle.std.proofs.lemmas.Bool.{cond-false, cond_both, ne_eqb, le-ltb}
use Rattle.domain_rdata_text.specs.declared.bitmaps.Block.{Block}
use Rattle.domain_rdata_text.specs.declared.bitmaps.Block.TheVariants.{Ended, Bitmap}
use Rattle.domain_rdata_text.specs.Bitmaps.{has_type, weight_of, four_of, octet_of, bitmap, len_with, bitmap_len, block_of_len, block, blocks, window_count, bitmaps_of, with_bit, with_four, with_octet, block_after, types_in}

-- ---- what is found in an octet
-- types, and t after them, if the bit is a one
abbrev pub put : Bool → List ℕ → ℕ → List ℕ
put b us t = cond b (us ++ t ∷ []) us

abbrev pub weight : Bool → ℕ → ℕ
weight b v = cond b v 0

abbrev pub sum_of : Bool → Bool → Bool → Bool → ℕ
sum_of a b c d = weight a 8 + weight b 4 + weight c 2 + weight d 1

put_four : (a b c d : Bool) (us : List ℕ) (t : ℕ) → with_four us t (sum_of a b c d) ≡ put d (put c (put b (put a us t) (t + 1)) (t + 2)) (t + 3)
unfolding with_four with_bit
put_four true true true true us t = refl
put_four true true true false us t = refl
put_four true true false true us t = refl
put_four true true false false us t = refl
put_four true false true true us t = refl
put_four true false true false us t = refl
put_four true false false true us t = refl
put_four true false false false us t = refl
put_four false true true true us t = refl
put_four false true true false us t = refl
put_four false true false true us t = refl
put_four false true false false us t = refl
put_four false false true true us t = refl
put_four false false true false us t = refl
put_four false false false true us t = refl
put_four false false false false us t = refl

sum_small : (a b c d : Bool) → sum_of a b c d < 16
sum_small true true true true = omega arith
sum_small true true true false = omega arith
sum_small true true false true = omega arith
sum_small true true false false = omega arith
sum_small true false true true = omega arith
sum_small true false true false = omega arith
sum_small true false false true = omega arith
sum_small true false false false = omega arith
sum_small false true true true = omega arith
sum_small false true true false = omega arith
sum_small false true false true = omega arith
sum_small false true false false = omega arith
sum_small false false true true = omega arith
sum_small false false true false = omega arith
sum_small false false false true = omega arith
sum_small false false false false = omega arith

-- types, and those of ts among t and the three after it
abbrev pub found_four : List ℕ → List ℕ → ℕ → List ℕ
found_four ts us t = put (has_type (t + 3) ts) (put (has_type (t + 2) ts) (put (has_type (t + 1) ts) (put (has_type t ts) us t) (t + 1)) (t + 2)) (t + 3)

-- and those among t and the seven after it
abbrev pub found_eight : List ℕ → List ℕ → ℕ → List ℕ
found_eight ts us t = found_four ts (found_four ts us t) (t + 4)

four_found : (ts us : List ℕ) (t : ℕ) → with_four us t (four_of ts t) ≡ found_four ts us t
unfolding four_of weight_of
four_found ts us t = put_four (has_type t ts) (has_type (t + 1) ts) (has_type (t + 2) ts) (has_type (t + 3) ts) us t

pub four_small : (ts : List ℕ) (t : ℕ) → four_of ts t < 16
unfolding four_of weight_of
four_small ts t = sum_small (has_type t ts) (has_type (t + 1) ts) (has_type (t + 2) ts) (has_type (t + 3) ts)

high_half : (a b : ℕ) → b < 16 → (a * 16 + b) / 16 ≡ a
high_half a b h = omega (arith, h)

low_half : (a b : ℕ) → b < 16 → (a * 16 + b) % 16 ≡ b
low_half a b h = omega (arith, h)

octet_found : (ts us : List ℕ) (t : ℕ) → with_octet us t (octet_of ts t) ≡ found_eight ts us t
unfolding with_octet octet_of
octet_found ts us t =
    let a = four_of ts t in
    let b = four_of ts (t + 4) in
    let h = four_small ts (t + 4) in
    ap (λ (x : ℕ). with_four (with_four us t x) (t + 4) ((a * 16 + b) % 16)) (high_half a b h)
    ∙ (ap (λ (x : ℕ). with_four (with_four us t a) (t + 4) x) (low_half a b h)
    ∙ (ap (λ (x : List ℕ). with_four x (t + 4) b) (four_found ts us t)
    ∙ four_found ts (found_four ts us t) (t + 4)))

-- ---- in a bitmap
-- n octets from the front, of which the first has the bit of the type t
abbrev octets_from : List ℕ → ℕ → ℕ → List ℕ
octets_from ts t zero = []
octets_from ts t (suc n) = octet_of ts t ∷ octets_from ts (t + 8) n

from_next : (ts : List ℕ) (n t : ℕ) → octets_from ts t (suc n) ≡ octets_from ts t n ++ octet_of ts (t + 8 * n) ∷ []
from_next ts zero t = ap (λ (x : ℕ). octet_of ts x ∷ []) (omega arith)
from_next ts (suc n) t =
    ap (λ (x : List ℕ). octet_of ts t ∷ x) (from_next ts n (t + 8)
    ∙ ap (λ (x : ℕ). octets_from ts (t + 8) n ++ octet_of ts x ∷ []) (omega arith))

from_front : (ts : List ℕ) (n t : ℕ) → bitmap ts t n ≡ octets_from ts t n
from_front ts zero t = refl
from_front ts (suc n) t = ap (λ (x : List ℕ). x ++ octet_of ts (t + 8 * n) ∷ []) (from_front ts n t) ∙ sym (from_next ts n t)

-- types, and those of ts that n octets have
abbrev pub found_from : List ℕ → List ℕ → ℕ → ℕ → List ℕ
found_from ts us t zero = us
found_from ts us t (suc n) = found_from ts (found_eight ts us t) (t + 8) n

after_more : (t n : ℕ) → block_after t (suc (suc n)) ≡ Bitmap (t + 8) (suc n)
after_more t n =
    cond-false (suc (suc n) == 1) Ended (Bitmap (t + 8) (suc (suc n) - 1)) (ne_eqb (suc (suc n)) 1 (λ e. omega (arith, e)))
    ∙ ap (λ (x : ℕ). Bitmap (t + 8) x) (omega arith)

octets_found : (ts : List ℕ) (n t : ℕ) (us os : List ℕ) → types_in us (Bitmap t (suc n)) (octets_from ts t (suc n) ++ os) ≡ types_in (found_from ts us t (suc n)) Ended os
octets_found ts zero t us os = ap (λ (x : List ℕ). types_in x Ended os) (octet_found ts us t)
octets_found ts (suc n) t us os =
    ap (λ (x : Block). types_in (with_octet us t (octet_of ts t)) x (octets_from ts (t + 8) (suc n) ++ os)) (after_more t n)
    ∙ (ap (λ (x : List ℕ). types_in x (Bitmap (t + 8) (suc n)) (octets_from ts (t + 8) (suc n) ++ os)) (octet_found ts us t)
    ∙ octets_found ts n (t + 8) (found_eight ts us t) os)

-- ---- in blocks
pub len_small : (w : ℕ) (ts : List ℕ) (n : ℕ) → n ≤ 32 → bitmap_len n w ts ≤ 32
len_small w [] n h = h
len_small w (t ∷ ts) n h =
    len_small w ts (len_with n w t) (cond_both (t / 256 == w && nat_lt n (t % 256 / 8 + 1)) (t % 256 / 8 + 1) n (λ x. x ≤ 32) (λ _. omega arith) (λ _. h))

block_more : (ts : List ℕ) (w n : ℕ) → block_of_len ts w (suc n) ≡ w ∷ suc n ∷ bitmap ts (w * 256) (suc n)
block_more ts w n = cond-false (suc n == 0) [] (w ∷ suc n ∷ bitmap ts (w * 256) (suc n)) (ne_eqb (suc n) 0 (λ e. omega (arith, e)))

block_found : (ts us : List ℕ) (w n : ℕ) (os : List ℕ) → n ≤ 32 → types_in us Ended (block_of_len ts w n ++ os) ≡ types_in (found_from ts us (w * 256) n) Ended os
block_found ts us w zero os h = refl
block_found ts us w (suc n) os h =
    ap (λ (x : List ℕ). types_in us Ended (x ++ os)) (block_more ts w n)
    ∙ (cond-false (nat_lt (suc n) 1) None (cond (nat_lt 32 (suc n)) None (types_in us (Bitmap (w * 256) (suc n)) (bitmap ts (w * 256) (suc n) ++ os))) (le-ltb (suc n) 1 (omega arith))
    ∙ (cond-false (nat_lt 32 (suc n)) None (types_in us (Bitmap (w * 256) (suc n)) (bitmap ts (w * 256) (suc n) ++ os)) (le-ltb 32 (suc n) h)
    ∙ (ap (λ (x : List ℕ). types_in us (Bitmap (w * 256) (suc n)) (x ++ os)) (from_front ts (suc n) (w * 256))
    ∙ octets_found ts n (w * 256) us os)))

-- types that the first n windows have
abbrev pub found_in : List ℕ → ℕ → List ℕ
found_in ts zero = []
found_in ts (suc n) = found_from ts (found_in ts n) (n * 256) (bitmap_len 0 n ts)

blocks_found : (ts : List ℕ) (n : ℕ) (os : List ℕ) → types_in [] Ended (blocks ts n ++ os) ≡ types_in (found_in ts n) Ended os
blocks_found ts zero os = refl
blocks_found ts (suc n) os =
    ap (λ (x : List ℕ). types_in [] Ended x) (append_assoc (blocks ts n) (block ts n) os)
    ∙ (blocks_found ts n (block ts n ++ os)
    ∙ block_found ts (found_in ts n) n (bitmap_len 0 n ts) os (len_small n ts 0 (omega arith)))

-- the types that are found in the bitmaps of types
abbrev pub found : List ℕ → List ℕ
found ts = found_in ts (window_count 0 ts)

pub all_found : (ts : List ℕ) → types_in [] Ended (bitmaps_of ts) ≡ Some (found ts)
unfolding bitmaps_of
all_found ts =
    let n = window_count 0 ts in
    ap (λ (x : List ℕ). types_in [] Ended x) (sym (append-nil (blocks ts n))) ∙ blocks_found ts n []
