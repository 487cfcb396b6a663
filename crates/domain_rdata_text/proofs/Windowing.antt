-- The bitmap of a window is that of the types of the window.
use Rattle.std.proofs.Common.{◌≡◌, ◌∙◌, ℕ, zero, suc, ◌+◌, ◌*◌, ◌/◌, ◌≤◌, ◌<◌, Bool, true, false, ◌==◌, cond, List, [], ◌∷◌, ◌++◌, refl, sym, ap, append_assoc, arith}
use Rattle.std.proofs.lemmas.Bool.{cond-false, cond_both, ne_eqb, eqb-false}
use Rattle.domain_rdata_text.specs.Bitmaps.{has_type, weight_of, four_of, octet_of, of_window, bitmap}

-- ---- one type more
split : (b : Bool) (t : ℕ) (us : List ℕ) → cond b (t ∷ us) us ≡ cond b (t ∷ []) [] ++ us
split true t us = refl
split false t us = refl

pub next_type : (us ts : List ℕ) (w t : ℕ) → us ++ of_window w (t ∷ ts) ≡ (us ++ of_window w (t ∷ [])) ++ of_window w ts
next_type us ts w t =
    ap (λ (vs : List ℕ). us ++ vs) (split (t / 256 == w) t (of_window w ts)) ∙ sym (append_assoc us (of_window w (t ∷ [])) (of_window w ts))

-- ---- the bits of a window
has_same : (ts : List ℕ) (w x : ℕ) → x / 256 ≡ w → has_type x (of_window w ts) ≡ has_type x ts
has_same [] w x h = refl
has_same (t ∷ ts) w x h =
    cond_both (t / 256 == w) (t ∷ of_window w ts) (of_window w ts) (λ us. has_type x us ≡ has_type x (t ∷ ts))
    (λ e. ap (λ (b : Bool). cond (t == x) true b) (has_same ts w x h))
    (λ e. has_same ts w x h ∙ sym (cond-false (t == x) true (has_type x ts) (ne_eqb t x (λ d. eqb-false (t / 256) w e (ap (λ (y : ℕ). y / 256) d ∙ h)))))

in_window : (w x : ℕ) → w * 256 ≤ x → x < w * 256 + 256 → x / 256 ≡ w
in_window w x lo hi = omega (arith, lo, hi)

weight_same : (ts : List ℕ) (w x v : ℕ) → w * 256 ≤ x → x < w * 256 + 256 → weight_of (of_window w ts) x v ≡ weight_of ts x v
unfolding weight_of
weight_same ts w x v lo hi = ap (λ (b : Bool). cond b v 0) (has_same ts w x (in_window w x lo hi))

four_same : (ts : List ℕ) (w t : ℕ) → w * 256 ≤ t → t + 4 ≤ w * 256 + 256 → four_of (of_window w ts) t ≡ four_of ts t
unfolding four_of
four_same ts w t lo hi =
    let us = of_window w ts in
    ap (λ (k : ℕ). k + weight_of us (t + 1) 4 + weight_of us (t + 2) 2 + weight_of us (t + 3) 1) (weight_same ts w t 8 lo (omega (arith, hi)))
    ∙ ap (λ (k : ℕ). weight_of ts t 8 + k + weight_of us (t + 2) 2 + weight_of us (t + 3) 1) (weight_same ts w (t + 1) 4 (omega (arith, lo)) (omega (arith, hi)))
    ∙ ap (λ (k : ℕ). weight_of ts t 8 + weight_of ts (t + 1) 4 + k + weight_of us (t + 3) 1) (weight_same ts w (t + 2) 2 (omega (arith, lo)) (omega (arith, hi)))
    ∙ ap (λ (k : ℕ). weight_of ts t 8 + weight_of ts (t + 1) 4 + weight_of ts (t + 2) 2 + k) (weight_same ts w (t + 3) 1 (omega (arith, lo)) (omega (arith, hi)))

octet_same : (ts : List ℕ) (w t : ℕ) → w * 256 ≤ t → t + 8 ≤ w * 256 + 256 → octet_of (of_window w ts) t ≡ octet_of ts t
unfolding octet_of
octet_same ts w t lo hi =
    ap (λ (k : ℕ). k * 16 + four_of (of_window w ts) (t + 4)) (four_same ts w t lo (omega (arith, hi)))
    ∙ ap (λ (k : ℕ). four_of ts t * 16 + k) (four_same ts w (t + 4) (omega (arith, lo)) (omega (arith, hi)))

pub same_bitmap : (ts : List ℕ) (w n : ℕ) → n ≤ 32 → bitmap (of_window w ts) (w * 256) n ≡ bitmap ts (w * 256) n
same_bitmap ts w zero few = refl
same_bitmap ts w (suc n) few =
    ap (λ (os : List ℕ). os ++ octet_of (of_window w ts) (w * 256 + 8 * n) ∷ []) (same_bitmap ts w n (omega (arith, few)))
    ∙ ap (λ (c : ℕ). bitmap ts (w * 256) n ++ c ∷ []) (octet_same ts w (w * 256 + 8 * n) (omega arith) (omega (arith, few)))
