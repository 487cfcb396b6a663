-- Octets in digits, five octets at a time.
use Rattle.std.proofs.Common.{◌≡◌, ◌∙◌, ℕ, ◌+◌, ◌-◌, ◌*◌, ◌≤◌, ◌<◌, List, [], ◌∷◌, ◌++◌, length, take, drop, get_or, refl, sym, ap, append_assoc, append-nil, length-drop, arith}
use borrow.Rule.Slice.PartMut.{put_mid}
use Rattle.std.proofs.lemmas.Grind.{common_steps}
use Rattle.std.proofs.lemmas.List.{take_all}
use Rattle.std.proofs.lemmas.Slice.{take-put_mid}
use Rattle.domain_field_text.specs.Base32.{base32hex_group, base32hex_text}

-- the first five octets
five_first : (o : List ℕ) → 5 ≤ length o
    → base32hex_text o ≡ base32hex_group (get_or o 0 0) (get_or o 1 0) (get_or o 2 0) (get_or o 3 0) (get_or o 4 0) ++ base32hex_text (drop 5 o)
five_first [] some = absurd (omega (arith, some))
five_first (a ∷ []) some = absurd (omega (arith, some))
five_first (a ∷ b ∷ []) some = absurd (omega (arith, some))
five_first (a ∷ b ∷ c ∷ []) some = absurd (omega (arith, some))
five_first (a ∷ b ∷ c ∷ d ∷ []) some = absurd (omega (arith, some))
five_first (a ∷ b ∷ c ∷ d ∷ e ∷ o) some = refl

-- a group more is written
pub group_written : (label hash o digits : List ℕ) (at k n : ℕ) → 5 ≤ length o → at ≤ length label
    → digits ≡ base32hex_group (get_or o 0 0) (get_or o 1 0) (get_or o 2 0) (get_or o 3 0) (get_or o 4 0) → length o - 5 ≤ n
    → take at label ++ base32hex_text o ≡ base32hex_text hash → take (at + 8) (put_mid at k label digits) ++ base32hex_text (take n (drop 5 o)) ≡ base32hex_text hash
group_written label hash o digits at k n some inside is many whole =
    let eight : length digits ≡ 8 = ap length is in
    let front : take (at + 8) (put_mid at k label digits) ≡ take at label ++ digits = take-put_mid at k label digits (at + 8) (omega (arith, eight)) inside in
    let left : take n (drop 5 o) ≡ drop 5 o = take_all n (drop 5 o) (omega (arith, length-drop 5 o, many)) in
    let next : base32hex_text o ≡ digits ++ base32hex_text (take n (drop 5 o)) =
    five_first o some ∙ (ap (λ (x : List ℕ). x ++ base32hex_text (drop 5 o)) (sym is) ∙ ap (λ (x : List ℕ). digits ++ base32hex_text x) (sym left)) in
    ap (λ (x : List ℕ). x ++ base32hex_text (take n (drop 5 o))) front
    ∙ (append_assoc (take at label) digits (base32hex_text (take n (drop 5 o)))
    ∙ (ap (λ (x : List ℕ). take at label ++ x) (sym next) ∙ whole))

-- how many digits are written, and how many octets are left
pub group_sum : (o : List ℕ) (at n : ℕ) → 5 ≤ length o → length o - 5 ≤ n → 5 * at + 8 * length o ≡ 160 → 5 * (at + 8) + 8 * length (take n (drop 5 o)) ≡ 160
group_sum o at n some many sum =
    let left : length (take n (drop 5 o)) ≡ length (drop 5 o) = ap length (take_all n (drop 5 o) (omega (arith, length-drop 5 o, many))) in
    omega (arith, left, length-drop 5 o, some, sum)

-- all is written where fewer octets are left
pub all_written : (label hash o : List ℕ) (at : ℕ) → length label ≡ 32 → 5 * at + 8 * length o ≡ 160 → length o < 5 → take at label ++ base32hex_text o ≡ base32hex_text hash → label ≡ base32hex_text hash
all_written label hash [] at long sum few whole =
    sym (take_all at label (omega (arith, long, sum))) ∙ (sym (append-nil (take at label)) ∙ whole)
all_written label hash (a ∷ o) at long sum few whole = absurd (omega (arith, sum, few))

-- a list keeps its length where a part of it is written
pub put_long : (o s : List ℕ) (at k m n : ℕ) → length o ≡ n → length s ≡ m → k ≡ m → at + m ≤ n → length (put_mid at k o s) ≡ n
put_long o s at k m n long size is inside = grind (arith, common_steps)
