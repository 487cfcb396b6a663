-- Labels of the octets of an address, from the last.
use Rattle.std.proofs.Common.{true, ◌%◌, ◌/◌, append_assoc, ◌≡◌, ℕ, ◌+◌, ◌-◌, ◌*◌, ◌<◌, ◌≤◌, List, [], ◌∷◌, ◌++◌, length, drop, map, reverse, get_or, drop-cons, add-one, ap, sym, ◌∙◌, arith}
use Rattle.std.specs.List.{flat_map}
use Rattle.std.specs.Fmt.{decimal, digit_glyph}
use Rattle.std.proofs.lemmas.List.{reverse-append}
use Rattle.std.proofs.lemmas.List.Concat.{flat_map_single}
use Rattle.std.proofs.lemmas.Grind.{flat_map-append}
use Rattle.domain_text.specs.BuilderState.{BuilderState, finished, labelled, size}
use Rattle.domain_builder.specs.Reverse.{nibbles}
use Rattle.domain_builder.proofs.Building.{size_labelled}
use Rattle.domain_builder.proofs.Digits.{decimal_short}

-- the octets from one place on, from the last
pub from_last : (os : List ℕ) (i : ℕ) → i < length os → reverse (drop i os) ≡ reverse (drop (i + 1) os) ++ get_or os i 0 ∷ []
from_last os i h =
    ap reverse (drop-cons os i 0 h ∙ ap (λ (n : ℕ). get_or os i 0 ∷ drop n os) (sym (add-one i)))
    ∙ reverse-append (get_or os i 0 ∷ []) (drop (i + 1) os)

pub one_more : (f : ℕ → List (List ℕ)) (os : List ℕ) (i : ℕ) → i < length os → flat_map f (reverse (drop i os)) ≡ flat_map f (reverse (drop (i + 1) os)) ++ (f (get_or os i 0) ++ [])
one_more f os i h = ap (flat_map f) (from_last os i h) ∙ flat_map-append f (reverse (drop (i + 1) os)) (get_or os i 0 ∷ [])

-- a label more after finished ones
pub labelled_finished : (b : BuilderState) (ls : List (List ℕ)) (s : List ℕ) → b ≡ finished ls → 0 < length s → labelled b s ≡ finished (ls ++ s ∷ [])
labelled_finished b ls [] e h = absurd (omega arith)
labelled_finished b ls (c ∷ s) e h = ap (λ (x : BuilderState). labelled x (c ∷ s)) e

-- the labels under which an address stands fit
pub zone_fits : (b : BuilderState) (z : List ℕ) → size b ≤ 128 → length z ≤ 63 → 0 < length z → size (labelled b z) ≤ 254
zone_fits b z few short some = omega (arith, size_labelled b z some)

pub arpa_fits : (b m : BuilderState) (z a : List ℕ) → m ≡ labelled b z → size b ≤ 128 → length z ≤ 63 → 0 < length z → length a ≡ 4 → size (labelled m a) ≤ 254
arpa_fits b m z a e few short some four = omega (arith, size_labelled m a (omega (arith, four)), ap size e, size_labelled b z some, four)

-- the labels of one octet more
before : (l : ℕ) → 0 < l → l - 1 + 1 ≡ l
before l h = omega (arith, h)

pub decimal_fits : (b : BuilderState) (l n : ℕ) → 0 < l → size b + 4 * l ≤ 16 → n < 256 → size (labelled b (decimal n)) + 4 * (l - 1) ≤ 16
decimal_fits b l n h few v = let d = decimal_short n v in omega (arith, size_labelled b (decimal n) d.0, d.1, h, few)

pub decimal_step : (b m : BuilderState) (os : List ℕ) (l : ℕ) → 0 < l → l ≤ length os → b ≡ finished (map decimal (reverse (drop l os))) → get_or os (l - 1) 0 < 256 → m ≡ labelled b (decimal (get_or os (l - 1) 0)) → m ≡ finished (map decimal (reverse (drop (l - 1) os)))
decimal_step b m os l h within e v g =
    let n = get_or os (l - 1) 0 in
    let more : flat_map (λ c. decimal c ∷ []) (reverse (drop (l - 1) os)) ≡ flat_map (λ c. decimal c ∷ []) (reverse (drop (l - 1 + 1) os)) ++ decimal n ∷ [] = one_more (λ c. decimal c ∷ []) os (l - 1) (omega (arith, h, within)) in
    let whole : map decimal (reverse (drop (l - 1) os)) ≡ map decimal (reverse (drop l os)) ++ decimal n ∷ [] =
    sym (flat_map_single decimal (reverse (drop (l - 1) os))) ∙ more
    ∙ ap (λ (k : ℕ). flat_map (λ c. decimal c ∷ []) (reverse (drop k os)) ++ decimal n ∷ []) (before l h)
    ∙ ap (λ ls. ls ++ decimal n ∷ []) (flat_map_single decimal (reverse (drop l os))) in
    g ∙ labelled_finished b (map decimal (reverse (drop l os))) (decimal n) e (decimal_short n v).0 ∙ ap finished (sym whole)

pub nibble_fits : (b : BuilderState) (l c : ℕ) → 0 < l → size b + 4 * l ≤ 64 → size (labelled b (c ∷ [])) + 2 + 4 * (l - 1) ≤ 64
nibble_fits b l c h few = omega (arith, size_labelled b (c ∷ []) (omega arith), h, few)

pub nibbles_fit : (b m : BuilderState) (l c d : ℕ) → 0 < l → size b + 4 * l ≤ 64 → m ≡ labelled b (c ∷ []) → size (labelled m (d ∷ [])) + 4 * (l - 1) ≤ 64
nibbles_fit b m l c d h few e = omega (arith, size_labelled m (d ∷ []) (omega arith), ap size e, size_labelled b (c ∷ []) (omega arith), h, few)

pub nibble_step : (b m n : BuilderState) (os : List ℕ) (l : ℕ) → 0 < l → l ≤ length os → b ≡ finished (flat_map nibbles (reverse (drop l os))) → m ≡ labelled b (digit_glyph true (get_or os (l - 1) 0 % 16) ∷ []) → n ≡ labelled m (digit_glyph true (get_or os (l - 1) 0 / 16 % 16) ∷ []) → n ≡ finished (flat_map nibbles (reverse (drop (l - 1) os)))
nibble_step b m n os l h within e g k =
    let o = get_or os (l - 1) 0 in
    let ls : List (List ℕ) = flat_map nibbles (reverse (drop l os)) in
    let low : List ℕ = digit_glyph true (o % 16) ∷ [] in
    let high : List ℕ = digit_glyph true (o / 16 % 16) ∷ [] in
    let first : m ≡ finished (ls ++ low ∷ []) = g ∙ labelled_finished b ls low e (omega arith) in
    let second : n ≡ finished ((ls ++ low ∷ []) ++ high ∷ []) = k ∙ labelled_finished m (ls ++ low ∷ []) high first (omega arith) in
    let whole : flat_map nibbles (reverse (drop (l - 1) os)) ≡ ls ++ low ∷ high ∷ [] =
    one_more nibbles os (l - 1) (omega (arith, h, within)) ∙ ap (λ (i : ℕ). flat_map nibbles (reverse (drop i os)) ++ low ∷ high ∷ []) (before l h) in
    second ∙ ap finished (append_assoc ls (low ∷ []) (high ∷ []) ∙ sym whole)
