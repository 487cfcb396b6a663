-- What is found in the bitmaps of types are the same types, in whatever order, and they have the same bitmaps.
use Rattle.std.proofs.Common.{◌≡◌, ◌∙◌, ◌⊎◌, inl, inr, ℕ, zero, suc, ◌+◌, ◌*◌, ◌/◌, ◌%◌, ◌<◌, ◌≤◌, Bool, true, false, ◌==◌, ◌&&◌, cond, nat_lt, List, [], ◌∷◌, ◌++◌, Some, None, refl, sym, subst, ap, arith}
use Rattle.std.specs.Cmp.Lexicographic.{pointwise}
use Rattle.std.specs.List.{AllByRecursion}
use Rattle.std.proofs.lemmas.Bool.{false≢true, cases_eq, cases_lt, and_parts, and_from, cond-true, cond-false, cond_both, eq-eqb, ne_eqb, eqb-true, ltb-true, ltb-false}
use Rattle.domain_rdata_text.specs.Bitmaps.{has_type, weight_of, four_of, octet_of, bitmap, len_with, bitmap_len, block_of_len, block, blocks, windows_with, window_count, bitmaps_of, canonical, types_of_bitmaps}
use Rattle.domain_rdata_text.proofs.Listing.{put, sum_of, found_four, found_eight, found_from, found_in, found, all_found}

pub either : {A B C : Type 0} → A ⊎ B → (A → C) → (B → C) → C
either (inl a) f g = f a
either (inr b) f g = g b

-- ---- members
pub here : (t : ℕ) (ts : List ℕ) → has_type t (t ∷ ts) ≡ true
here t ts = cond-true (t == t) true (has_type t ts) (eq-eqb t t refl)

pub there : (x t : ℕ) (ts : List ℕ) → has_type x ts ≡ true → has_type x (t ∷ ts) ≡ true
there x t ts h = cond_both (t == x) true (has_type x ts) (λ b. b ≡ true) (λ _. refl) (λ _. h)

in_list : (x t : ℕ) (ts : List ℕ) → has_type x (t ∷ ts) ≡ true → (t ≡ x) ⊎ (has_type x ts ≡ true)
in_list x t ts h = either (cases_eq t x) (λ e. inl e) (λ d. inr (sym (cond-false (t == x) true (has_type x ts) (ne_eqb t x d)) ∙ h))

in_front : (x : ℕ) (us vs : List ℕ) → has_type x us ≡ true → has_type x (us ++ vs) ≡ true
in_front x [] vs h = absurd (false≢true h)
in_front x (u ∷ us) vs h =
    either (in_list x u us h)
    (λ e. cond-true (u == x) true (has_type x (us ++ vs)) (eq-eqb u x e))
    (λ i. there x u (us ++ vs) (in_front x us vs i))

at_end : (t : ℕ) (us : List ℕ) → has_type t (us ++ t ∷ []) ≡ true
at_end t [] = here t []
at_end t (u ∷ us) = there t u (us ++ t ∷ []) (at_end t us)

-- ---- a type that is among types is found
put_keeps : (b : Bool) (us : List ℕ) (t x : ℕ) → has_type x us ≡ true → has_type x (put b us t) ≡ true
put_keeps true us t x h = in_front x us (t ∷ []) h
put_keeps false us t x h = h

put_at : (ts us : List ℕ) (t x : ℕ) → x ≡ t → has_type x ts ≡ true → has_type x (put (has_type t ts) us t) ≡ true
put_at ts us t x e h =
    let is : has_type t ts ≡ true = subst (λ (y : ℕ). has_type y ts ≡ true) e h in
    subst (λ (y : ℕ). has_type y (put (has_type t ts) us t) ≡ true) (sym e) (ap (λ (b : Bool). has_type t (put b us t)) is ∙ at_end t us)

four_keeps : (ts us : List ℕ) (t x : ℕ) → has_type x us ≡ true → has_type x (found_four ts us t) ≡ true
four_keeps ts us t x h =
    let a = put (has_type t ts) us t in
    let b = put (has_type (t + 1) ts) a (t + 1) in
    let c = put (has_type (t + 2) ts) b (t + 2) in
    put_keeps (has_type (t + 3) ts) c (t + 3) x (put_keeps (has_type (t + 2) ts) b (t + 2) x (put_keeps (has_type (t + 1) ts) a (t + 1) x (put_keeps (has_type t ts) us t x h)))

four_at : (ts us : List ℕ) (t x : ℕ) → t ≤ x → x < t + 4 → has_type x ts ≡ true → (x ≡ t) ⊎ (x ≡ t → ⊥) → (x ≡ t + 1) ⊎ (x ≡ t + 1 → ⊥) → (x ≡ t + 2) ⊎ (x ≡ t + 2 → ⊥)
    → has_type x (found_four ts us t) ≡ true
four_at ts us t x lo hi h (inl e) q r =
    let a = put (has_type t ts) us t in
    let b = put (has_type (t + 1) ts) a (t + 1) in
    let c = put (has_type (t + 2) ts) b (t + 2) in
    put_keeps (has_type (t + 3) ts) c (t + 3) x (put_keeps (has_type (t + 2) ts) b (t + 2) x (put_keeps (has_type (t + 1) ts) a (t + 1) x (put_at ts us t x e h)))
four_at ts us t x lo hi h (inr d) (inl e) r =
    let a = put (has_type t ts) us t in
    let b = put (has_type (t + 1) ts) a (t + 1) in
    let c = put (has_type (t + 2) ts) b (t + 2) in
    put_keeps (has_type (t + 3) ts) c (t + 3) x (put_keeps (has_type (t + 2) ts) b (t + 2) x (put_at ts a (t + 1) x e h))
four_at ts us t x lo hi h (inr d) (inr f) (inl e) =
    let a = put (has_type t ts) us t in
    let b = put (has_type (t + 1) ts) a (t + 1) in
    let c = put (has_type (t + 2) ts) b (t + 2) in
    put_keeps (has_type (t + 3) ts) c (t + 3) x (put_at ts b (t + 2) x e h)
four_at ts us t x lo hi h (inr d) (inr f) (inr g) =
    let a = put (has_type t ts) us t in
    let b = put (has_type (t + 1) ts) a (t + 1) in
    let c = put (has_type (t + 2) ts) b (t + 2) in
    put_at ts c (t + 3) x (omega (arith, lo, hi, d, f, g)) h

four_has : (ts us : List ℕ) (t x : ℕ) → t ≤ x → x < t + 4 → has_type x ts ≡ true → has_type x (found_four ts us t) ≡ true
four_has ts us t x lo hi h = four_at ts us t x lo hi h (cases_eq x t) (cases_eq x (t + 1)) (cases_eq x (t + 2))

eight_keeps : (ts us : List ℕ) (t x : ℕ) → has_type x us ≡ true → has_type x (found_eight ts us t) ≡ true
eight_keeps ts us t x h = four_keeps ts (found_four ts us t) (t + 4) x (four_keeps ts us t x h)

eight_has : (ts us : List ℕ) (t x : ℕ) → t ≤ x → x < t + 8 → has_type x ts ≡ true → has_type x (found_eight ts us t) ≡ true
eight_has ts us t x lo hi h =
    either (cases_lt x (t + 4))
    (λ less. four_keeps ts (found_four ts us t) (t + 4) x (four_has ts us t x lo less h))
    (λ more. four_has ts (found_four ts us t) (t + 4) x more (omega (arith, hi)) h)

from_keeps : (ts : List ℕ) (n : ℕ) (us : List ℕ) (t x : ℕ) → has_type x us ≡ true → has_type x (found_from ts us t n) ≡ true
from_keeps ts zero us t x h = h
from_keeps ts (suc n) us t x h = from_keeps ts n (found_eight ts us t) (t + 8) x (eight_keeps ts us t x h)

from_has : (ts : List ℕ) (n : ℕ) (us : List ℕ) (t x : ℕ) → t ≤ x → x < t + 8 * n → has_type x ts ≡ true → has_type x (found_from ts us t n) ≡ true
from_has ts zero us t x lo hi h = absurd (omega (arith, lo, hi))
from_has ts (suc n) us t x lo hi h =
    either (cases_lt x (t + 8))
    (λ less. from_keeps ts n (found_eight ts us t) (t + 8) x (eight_has ts us t x lo less h))
    (λ more. from_has ts n (found_eight ts us t) (t + 8) x more (omega (arith, hi)) h)

-- ---- bitmaps and windows have room for each type
with_grows : (n w t : ℕ) → n ≤ len_with n w t
with_grows n w t =
    let k = t % 256 / 8 + 1 in
    cond_both (t / 256 == w && nat_lt n k) k n (λ x. n ≤ x) (λ e. omega (arith, ltb-true n k (and_parts (t / 256 == w) (nat_lt n k) e).1)) (λ _. omega arith)

not_less : (b : Bool) (n k : ℕ) → b ≡ true → (b && nat_lt n k) ≡ false → k ≤ n
not_less true n k h e = ltb-false n k e
not_less false n k h e = absurd (false≢true h)

with_covers : (n w t : ℕ) → t / 256 ≡ w → t % 256 / 8 + 1 ≤ len_with n w t
with_covers n w t h =
    let k = t % 256 / 8 + 1 in
    cond_both (t / 256 == w && nat_lt n k) k n (λ x. k ≤ x) (λ _. omega arith) (λ e. not_less (t / 256 == w) n k (eq-eqb (t / 256) w h) e)

len_grows : (w : ℕ) (ts : List ℕ) (n : ℕ) → n ≤ bitmap_len n w ts
len_grows w [] n = omega arith
len_grows w (t ∷ ts) n = omega (arith, with_grows n w t, len_grows w ts (len_with n w t))

pub len_covers : (w : ℕ) (ts : List ℕ) (n x : ℕ) → has_type x ts ≡ true → x / 256 ≡ w → x % 256 / 8 + 1 ≤ bitmap_len n w ts
len_covers w [] n x h i = absurd (false≢true h)
len_covers w (t ∷ ts) n x h i =
    let m = len_with n w t in
    either (in_list x t ts h)
    (λ e. subst (λ (y : ℕ). y % 256 / 8 + 1 ≤ bitmap_len m w ts) e (omega (arith, with_covers n w t (ap (λ (y : ℕ). y / 256) e ∙ i), len_grows w ts m)))
    (λ j. len_covers w ts m x j i)

len_most : (w : ℕ) (ts : List ℕ) (n m : ℕ) → n ≤ m → ((x : ℕ) → has_type x ts ≡ true → x / 256 ≡ w → x % 256 / 8 + 1 ≤ m) → bitmap_len n w ts ≤ m
len_most w [] n m h f = h
len_most w (t ∷ ts) n m h f =
    let k = t % 256 / 8 + 1 in
    len_most w ts (len_with n w t) m
    (cond_both (t / 256 == w && nat_lt n k) k n (λ x. x ≤ m) (λ e. f t (here t ts) (eqb-true (t / 256) w (and_parts (t / 256 == w) (nat_lt n k) e).0)) (λ _. h))
    (λ x i j. f x (there x t ts i) j)

windows_grow : (n t : ℕ) → n ≤ windows_with n t
windows_grow n t = cond_both (nat_lt n (t / 256 + 1)) (t / 256 + 1) n (λ x. n ≤ x) (λ e. omega (arith, ltb-true n (t / 256 + 1) e)) (λ _. omega arith)

windows_cover : (n t : ℕ) → t / 256 + 1 ≤ windows_with n t
windows_cover n t = cond_both (nat_lt n (t / 256 + 1)) (t / 256 + 1) n (λ x. t / 256 + 1 ≤ x) (λ _. omega arith) (λ e. ltb-false n (t / 256 + 1) e)

count_grows : (ts : List ℕ) (n : ℕ) → n ≤ window_count n ts
count_grows [] n = omega arith
count_grows (t ∷ ts) n = omega (arith, windows_grow n t, count_grows ts (windows_with n t))

count_covers : (ts : List ℕ) (n x : ℕ) → has_type x ts ≡ true → x / 256 + 1 ≤ window_count n ts
count_covers [] n x h = absurd (false≢true h)
count_covers (t ∷ ts) n x h =
    let m = windows_with n t in
    either (in_list x t ts h)
    (λ e. subst (λ (y : ℕ). y / 256 + 1 ≤ window_count m ts) e (omega (arith, windows_cover n t, count_grows ts m)))
    (λ j. count_covers ts m x j)

count_most : (ts : List ℕ) (n m : ℕ) → n ≤ m → ((x : ℕ) → has_type x ts ≡ true → x / 256 + 1 ≤ m) → window_count n ts ≤ m
count_most [] n m h f = h
count_most (t ∷ ts) n m h f =
    count_most ts (windows_with n t) m
    (cond_both (nat_lt n (t / 256 + 1)) (t / 256 + 1) n (λ x. x ≤ m) (λ _. f t (here t ts)) (λ _. h))
    (λ x i. f x (there x t ts i))

-- ---- what is found has the members of types
in_has : (ts : List ℕ) (n x : ℕ) → x / 256 < n → has_type x ts ≡ true → has_type x (found_in ts n) ≡ true
in_has ts zero x lo h = absurd (omega (arith, lo))
in_has ts (suc n) x lo h =
    let len = bitmap_len 0 n ts in
    either (cases_lt (x / 256) n)
    (λ less. from_keeps ts len (found_in ts n) (n * 256) x (in_has ts n x less h))
    (λ more. from_has ts len (found_in ts n) (n * 256) x (omega (arith, more)) (omega (arith, lo, more, len_covers n ts 0 x h (omega (arith, lo, more)))) h)

abbrev Are : List ℕ → List ℕ → Type 0
Are ts us = AllByRecursion (λ u. has_type u ts ≡ true) us

are_more : (ts us : List ℕ) (t : ℕ) → Are ts us → has_type t ts ≡ true → Are ts (us ++ t ∷ [])
are_more ts [] t a h = (h, tt)
are_more ts (u ∷ us) t a h = (a.0, are_more ts us t a.1 h)

put_are : (b : Bool) (ts us : List ℕ) (t : ℕ) → has_type t ts ≡ b → Are ts us → Are ts (put b us t)
put_are true ts us t h a = are_more ts us t a h
put_are false ts us t h a = a

four_are : (ts us : List ℕ) (t : ℕ) → Are ts us → Are ts (found_four ts us t)
four_are ts us t h =
    let a = put (has_type t ts) us t in
    let b = put (has_type (t + 1) ts) a (t + 1) in
    let c = put (has_type (t + 2) ts) b (t + 2) in
    put_are (has_type (t + 3) ts) ts c (t + 3) refl (put_are (has_type (t + 2) ts) ts b (t + 2) refl (put_are (has_type (t + 1) ts) ts a (t + 1) refl (put_are (has_type t ts) ts us t refl h)))

from_are : (ts : List ℕ) (n : ℕ) (us : List ℕ) (t : ℕ) → Are ts us → Are ts (found_from ts us t n)
from_are ts zero us t h = h
from_are ts (suc n) us t h = from_are ts n (found_eight ts us t) (t + 8) (four_are ts (found_four ts us t) (t + 4) (four_are ts us t h))

in_are : (ts : List ℕ) (n : ℕ) → Are ts (found_in ts n)
in_are ts zero = tt
in_are ts (suc n) = from_are ts (bitmap_len 0 n ts) (found_in ts n) (n * 256) (in_are ts n)

each_is : (ts us : List ℕ) (x : ℕ) → Are ts us → has_type x us ≡ true → has_type x ts ≡ true
each_is ts [] x a h = absurd (false≢true h)
each_is ts (u ∷ us) x a h =
    either (in_list x u us h) (λ e. subst (λ (y : ℕ). has_type y ts ≡ true) e a.0) (λ i. each_is ts us x a.1 i)

same_answer : (a b : Bool) → (a ≡ true → b ≡ true) → (b ≡ true → a ≡ true) → a ≡ b
same_answer true true f g = refl
same_answer true false f g = sym (f refl)
same_answer false true f g = g refl
same_answer false false f g = refl

pub found_same : (ts : List ℕ) (x : ℕ) → has_type x (found ts) ≡ has_type x ts
found_same ts x =
    same_answer (has_type x (found ts)) (has_type x ts)
    (λ h. each_is ts (found ts) x (in_are ts (window_count 0 ts)) h)
    (λ h. in_has ts (window_count 0 ts) x (omega (arith, count_covers ts 0 x h)) h)

-- ---- the same members have the same bitmaps
abbrev Same : List ℕ → List ℕ → Type 0
Same us ts = (x : ℕ) → has_type x us ≡ has_type x ts

four_same : (us ts : List ℕ) (t : ℕ) → Same us ts → four_of us t ≡ four_of ts t
unfolding four_of weight_of
four_same us ts t s =
    let b = has_type (t + 1) us in
    let c = has_type (t + 2) us in
    let d = has_type (t + 3) us in
    ap (λ (x : Bool). sum_of x b c d) (s t)
    ∙ (ap (λ (x : Bool). sum_of (has_type t ts) x c d) (s (t + 1))
    ∙ (ap (λ (x : Bool). sum_of (has_type t ts) (has_type (t + 1) ts) x d) (s (t + 2))
    ∙ ap (λ (x : Bool). sum_of (has_type t ts) (has_type (t + 1) ts) (has_type (t + 2) ts) x) (s (t + 3))))

pub octet_same : (us ts : List ℕ) (t : ℕ) → Same us ts → octet_of us t ≡ octet_of ts t
unfolding octet_of
octet_same us ts t s =
    ap (λ (x : ℕ). x * 16 + four_of us (t + 4)) (four_same us ts t s) ∙ ap (λ (x : ℕ). four_of ts t * 16 + x) (four_same us ts (t + 4) s)

bitmap_same : (us ts : List ℕ) (n t : ℕ) → Same us ts → bitmap us t n ≡ bitmap ts t n
bitmap_same us ts zero t s = refl
bitmap_same us ts (suc n) t s =
    ap (λ (x : List ℕ). x ++ octet_of us (t + 8 * n) ∷ []) (bitmap_same us ts n t s)
    ∙ ap (λ (x : ℕ). bitmap ts t n ++ x ∷ []) (octet_same us ts (t + 8 * n) s)

len_below : (us ts : List ℕ) (w : ℕ) → Same us ts → bitmap_len 0 w us ≤ bitmap_len 0 w ts
len_below us ts w s = len_most w us 0 (bitmap_len 0 w ts) (omega arith) (λ x h i. len_covers w ts 0 x (sym (s x) ∙ h) i)

count_below : (us ts : List ℕ) → Same us ts → window_count 0 us ≤ window_count 0 ts
count_below us ts s = count_most us 0 (window_count 0 ts) (omega arith) (λ x h. count_covers ts 0 x (sym (s x) ∙ h))

block_same : (us ts : List ℕ) (w : ℕ) → Same us ts → block us w ≡ block ts w
block_same us ts w s =
    let n = bitmap_len 0 w ts in
    let len : bitmap_len 0 w us ≡ n = omega (arith, len_below us ts w s, len_below ts us w (λ x. sym (s x))) in
    ap (λ (x : ℕ). block_of_len us w x) len
    ∙ ap (λ (x : List ℕ). cond (n == 0) [] (w ∷ n ∷ x)) (bitmap_same us ts n (w * 256) s)

blocks_same : (us ts : List ℕ) (n : ℕ) → Same us ts → blocks us n ≡ blocks ts n
blocks_same us ts zero s = refl
blocks_same us ts (suc n) s =
    ap (λ (x : List ℕ). x ++ block us n) (blocks_same us ts n s) ∙ ap (λ (x : List ℕ). blocks ts n ++ x) (block_same us ts n s)

bitmaps_same : (us ts : List ℕ) → Same us ts → bitmaps_of us ≡ bitmaps_of ts
unfolding bitmaps_of
bitmaps_same us ts s =
    let count : window_count 0 us ≡ window_count 0 ts = omega (arith, count_below us ts s, count_below ts us (λ x. sym (s x))) in
    ap (λ (x : ℕ). blocks us x) count ∙ blocks_same us ts (window_count 0 ts) s

all_same : (xs : List ℕ) → pointwise ◌==◌ xs xs ≡ true
all_same [] = refl
all_same (x ∷ xs) = and_from (x == x) (pointwise ◌==◌ xs xs) (eq-eqb x x refl) (all_same xs)

pub types_shown : (ts : List ℕ) → types_of_bitmaps (bitmaps_of ts) ≡ Some (found ts)
types_shown ts =
    let os = bitmaps_of ts in
    ap (canonical os) (all_found ts)
    ∙ cond-true (pointwise ◌==◌ (bitmaps_of (found ts)) os) (Some (found ts)) None
    (ap (λ (x : List ℕ). pointwise ◌==◌ x os) (bitmaps_same (found ts) ts (found_same ts)) ∙ all_same os)
