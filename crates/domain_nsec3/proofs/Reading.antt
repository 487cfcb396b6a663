-- Digits that are read, eight digits at a time.
use Rattle.std.proofs.Common.{◌≡◌, ◌∙◌, ℕ, ◌+◌, ◌*◌, ◌/◌, ◌%◌, ◌≤◌, ◌<◌, zero, suc, List, [], ◌∷◌, ◌++◌, ◌⊎◌, inl, inr, ⊎_elim, length, take, drop, get_or, get_or-drop, map, refl, sym, ap, subst, length-drop, slice_index, slice_set, arith}
use borrow.Rule.Slice.PartMut.{put_mid}
use Rattle.std.proofs.lemmas.List.{take_all, same_lists, length-take-le, get_or-set_same, get_or-set_other}
use Rattle.std.proofs.lemmas.Slice.{take-put_mid}
use Rattle.std.specs.Char.{to_ascii_lowercase}
use Rattle.std.specs.List.{AllByRecursion}
use Rattle.domain_field_text.specs.Base32.{base32hex_digit, base32hex_group, base32hex_text}
use Rattle.domain_label.specs.Lowercase.{lowercase}
use Rattle.domain_nsec3.specs.Labels.{AreValues, IsDigitOf, IsHash, IsLabelOf}

-- ---- digits

same_eight : (a b c d e f g h p q r s t u v w : ℕ) → a ≡ p → b ≡ q → c ≡ r → d ≡ s → e ≡ t → f ≡ u → g ≡ v → h ≡ w
    → map base32hex_digit (a ∷ b ∷ c ∷ d ∷ e ∷ f ∷ g ∷ h ∷ []) ≡ map base32hex_digit (p ∷ q ∷ r ∷ s ∷ t ∷ u ∷ v ∷ w ∷ [])
same_eight a b c d e f g h p q r s t u v w e0 e1 e2 e3 e4 e5 e6 e7 =
    ap (λ (x : ℕ). map base32hex_digit (x ∷ b ∷ c ∷ d ∷ e ∷ f ∷ g ∷ h ∷ [])) e0
    ∙ (ap (λ (x : ℕ). map base32hex_digit (p ∷ x ∷ c ∷ d ∷ e ∷ f ∷ g ∷ h ∷ [])) e1
    ∙ (ap (λ (x : ℕ). map base32hex_digit (p ∷ q ∷ x ∷ d ∷ e ∷ f ∷ g ∷ h ∷ [])) e2
    ∙ (ap (λ (x : ℕ). map base32hex_digit (p ∷ q ∷ r ∷ x ∷ e ∷ f ∷ g ∷ h ∷ [])) e3
    ∙ (ap (λ (x : ℕ). map base32hex_digit (p ∷ q ∷ r ∷ s ∷ x ∷ f ∷ g ∷ h ∷ [])) e4
    ∙ (ap (λ (x : ℕ). map base32hex_digit (p ∷ q ∷ r ∷ s ∷ t ∷ x ∷ g ∷ h ∷ [])) e5
    ∙ (ap (λ (x : ℕ). map base32hex_digit (p ∷ q ∷ r ∷ s ∷ t ∷ u ∷ x ∷ h ∷ [])) e6
    ∙ ap (λ (x : ℕ). map base32hex_digit (p ∷ q ∷ r ∷ s ∷ t ∷ u ∷ v ∷ x ∷ [])) e7))))))

-- the digits of the octets of eight numbers are those of the numbers
pub packed : (a b c d e f g h : ℕ) → AllByRecursion (λ v. v < 32) (a ∷ b ∷ c ∷ d ∷ e ∷ f ∷ g ∷ h ∷ [])
    → base32hex_text ((a * 8 + b / 4) ∷ (b % 4 * 64 + c * 2 + d / 16) ∷ (d % 16 * 16 + e / 2) ∷ (e % 2 * 128 + f * 4 + g / 8) ∷ (g % 8 * 32 + h) ∷ [])
    ≡ map base32hex_digit (a ∷ b ∷ c ∷ d ∷ e ∷ f ∷ g ∷ h ∷ [])
packed a b c d e f g h small =
    let pa : a < 32 = small.0 in
    let pb : b < 32 = small.1.0 in
    let pc : c < 32 = small.1.1.0 in
    let pd : d < 32 = small.1.1.1.0 in
    let pe : e < 32 = small.1.1.1.1.0 in
    let pf : f < 32 = small.1.1.1.1.1.0 in
    let pg : g < 32 = small.1.1.1.1.1.1.0 in
    let ph : h < 32 = small.1.1.1.1.1.1.1.0 in
    let o0 : ℕ = a * 8 + b / 4 in
    let o1 : ℕ = b % 4 * 64 + c * 2 + d / 16 in
    let o2 : ℕ = d % 16 * 16 + e / 2 in
    let o3 : ℕ = e % 2 * 128 + f * 4 + g / 8 in
    let o4 : ℕ = g % 8 * 32 + h in
    same_eight (o0 / 8) (o0 % 8 * 4 + o1 / 64) (o1 / 2 % 32) (o1 % 2 * 16 + o2 / 16) (o2 % 16 * 2 + o3 / 128) (o3 / 4 % 32) (o3 % 4 * 8 + o4 / 32) (o4 % 32) a b c d e f g h
    (omega (arith, pa, pb)) (omega (arith, pa, pb, pc, pd)) (omega (arith, pb, pc, pd)) (omega (arith, pb, pc, pd, pe))
    (omega (arith, pd, pe, pf, pg)) (omega (arith, pe, pf, pg)) (omega (arith, pe, pf, pg, ph)) (omega (arith, pg, ph))

-- the digits of octets, five octets at a time
pub text-append : (n : ℕ) (p q : List ℕ) → length p ≡ 5 * n → base32hex_text (p ++ q) ≡ base32hex_text p ++ base32hex_text q
text-append zero [] q long = refl
text-append zero (a ∷ p) q long = absurd (omega (arith, long))
text-append (suc n) [] q long = absurd (omega (arith, long))
text-append (suc n) (a ∷ []) q long = absurd (omega (arith, long))
text-append (suc n) (a ∷ b ∷ []) q long = absurd (omega (arith, long))
text-append (suc n) (a ∷ b ∷ c ∷ []) q long = absurd (omega (arith, long))
text-append (suc n) (a ∷ b ∷ c ∷ d ∷ []) q long = absurd (omega (arith, long))
text-append (suc n) (a ∷ b ∷ c ∷ d ∷ e ∷ p) q long =
    ap (λ (x : List ℕ). base32hex_group a b c d e ++ x) (text-append n p q (omega (arith, long)))

pub text_length : (n : ℕ) (p : List ℕ) → length p ≡ 5 * n → length (base32hex_text p) ≡ 8 * n
text_length zero [] long = refl
text_length zero (a ∷ p) long = absurd (omega (arith, long))
text_length (suc n) [] long = absurd (omega (arith, long))
text_length (suc n) (a ∷ []) long = absurd (omega (arith, long))
text_length (suc n) (a ∷ b ∷ []) long = absurd (omega (arith, long))
text_length (suc n) (a ∷ b ∷ c ∷ []) long = absurd (omega (arith, long))
text_length (suc n) (a ∷ b ∷ c ∷ d ∷ []) long = absurd (omega (arith, long))
text_length (suc n) (a ∷ b ∷ c ∷ d ∷ e ∷ p) long =
    let later : length (base32hex_text p) ≡ 8 * n = text_length n p (omega (arith, long)) in
    omega (arith, later)

-- c is the digit of a number
abbrev pub IsDigit : ℕ → Type 0
IsDigit c = (n : ℕ) × (n < 32) × (c ≡ base32hex_digit n)

group_digit : (a b c d e : ℕ) (o : List ℕ) (k : ℕ) → a < 256 → b < 256 → c < 256 → d < 256 → e < 256 → ((j : ℕ) → j + 8 ≡ k → IsDigit (get_or o j 0))
    → IsDigit (get_or (base32hex_group a b c d e ++ o) k 0)
group_digit a b c d e o zero pa pb pc pd pe later = (a / 8, omega arith, refl)
group_digit a b c d e o (suc zero) pa pb pc pd pe later = (a % 8 * 4 + b / 64, omega arith, refl)
group_digit a b c d e o (suc (suc zero)) pa pb pc pd pe later = (b / 2 % 32, omega arith, refl)
group_digit a b c d e o (suc (suc (suc zero))) pa pb pc pd pe later = (b % 2 * 16 + c / 16, omega arith, refl)
group_digit a b c d e o (suc (suc (suc (suc zero)))) pa pb pc pd pe later = (c % 16 * 2 + d / 128, omega arith, refl)
group_digit a b c d e o (suc (suc (suc (suc (suc zero))))) pa pb pc pd pe later = (d / 4 % 32, omega arith, refl)
group_digit a b c d e o (suc (suc (suc (suc (suc (suc zero)))))) pa pb pc pd pe later = (d % 4 * 8 + e / 32, omega arith, refl)
group_digit a b c d e o (suc (suc (suc (suc (suc (suc (suc zero))))))) pa pb pc pd pe later = (e % 32, omega arith, refl)
group_digit a b c d e o (suc (suc (suc (suc (suc (suc (suc (suc k)))))))) pa pb pc pd pe later = later k (omega arith)

-- what octets have as text is digits
pub text_digit : (n : ℕ) (p : List ℕ) (k : ℕ) → length p ≡ 5 * n → AllByRecursion (λ o. o < 256) p → k < 8 * n → IsDigit (get_or (base32hex_text p) k 0)
text_digit zero p k long small inside = absurd (omega (arith, inside))
text_digit (suc n) [] k long small inside = absurd (omega (arith, long))
text_digit (suc n) (a ∷ []) k long small inside = absurd (omega (arith, long))
text_digit (suc n) (a ∷ b ∷ []) k long small inside = absurd (omega (arith, long))
text_digit (suc n) (a ∷ b ∷ c ∷ []) k long small inside = absurd (omega (arith, long))
text_digit (suc n) (a ∷ b ∷ c ∷ d ∷ []) k long small inside = absurd (omega (arith, long))
text_digit (suc n) (a ∷ b ∷ c ∷ d ∷ e ∷ p) k long small inside =
    group_digit a b c d e (base32hex_text p) k small.0 small.1.0 small.1.1.0 small.1.1.1.0 small.1.1.1.1.0
    (λ (j : ℕ) (is : j + 8 ≡ k). text_digit n p j (omega (arith, long)) small.1.1.1.1.1 (omega (arith, is, inside)))

-- ---- labels

get_or-map : (f : ℕ → ℕ) (o : List ℕ) (k x y : ℕ) → k < length o → get_or (map f o) k x ≡ f (get_or o k y)
get_or-map f [] k x y inside = absurd (omega (arith, inside))
get_or-map f (c ∷ o) zero x y inside = refl
get_or-map f (c ∷ o) (suc k) x y inside = get_or-map f o k x y (omega (arith, inside))

length-map_of : (f : ℕ → ℕ) (o : List ℕ) → length (map f o) ≡ length o
length-map_of f [] = refl
length-map_of f (c ∷ o) = ap suc (length-map_of f o)

-- what has another length is the label of no hash
pub not_long : (label hash : List ℕ) → (length label ≡ 32 → ⊥) → IsHash hash → IsLabelOf label hash → ⊥
not_long label hash other is_hash is =
    other (omega (arith, length-map_of to_ascii_lowercase label, ap length is, text_length 4 hash (omega (arith, is_hash.0))))

-- what has an octet that is no digit is the label of no hash
pub not_digits : (label hash : List ℕ) (k : ℕ) → length label ≡ 32 → k < 32 → ((n : ℕ) → IsDigitOf (slice_index label k) n → ⊥) → IsHash hash → IsLabelOf label hash → ⊥
not_digits label hash k long inside other is_hash is =
    let digit : IsDigit (get_or (base32hex_text hash) k 0) = text_digit 4 hash k (omega (arith, is_hash.0)) is_hash.1 (omega (arith, inside)) in
    let same : to_ascii_lowercase (get_or label k 0) ≡ get_or (base32hex_text hash) k 0 =
    sym (get_or-map to_ascii_lowercase label k 0 0 (omega (arith, long, inside))) ∙ ap (λ (x : List ℕ). get_or x k 0) is in
    other digit.0 (digit.1, sym digit.2 ∙ sym same)

-- the numbers of the digits of a label have its digits
pub values_shown : (label values : List ℕ) → length label ≡ 32 → AreValues label values → lowercase label ≡ map base32hex_digit values
values_shown label values long are =
    let front : length (map to_ascii_lowercase label) ≡ 32 = length-map_of to_ascii_lowercase label ∙ long in
    same_lists (lowercase label) (map base32hex_digit values) (front ∙ sym (length-map_of base32hex_digit values ∙ are.0))
    (λ (k d : ℕ) (inside : k < length (lowercase label)).
    let low : k < 32 = omega (arith, front, inside) in
    get_or-map to_ascii_lowercase label k d 0 (omega (arith, long, low))
    ∙ (sym (are.1 k low).1 ∙ sym (get_or-map base32hex_digit values k d 0 (omega (arith, are.0, low)))))

differ : (b n : ℕ) → (b < n) ⊎ ((b ≡ n) ⊎ (n < b))
differ zero zero = inr (inl refl)
differ zero (suc n) = inl (omega arith)
differ (suc b) zero = inr (inr (omega arith))
differ (suc b) (suc n) =
    ⊎_elim (λ (h : b < n). inl (omega (arith, h)))
    (λ (q : (b ≡ n) ⊎ (n < b)). ⊎_elim (λ (e : b ≡ n). inr (inl (ap suc e))) (λ (h : n < b). inr (inr (omega (arith, h)))) q)
    (differ b n)

-- a number more is read
pub value_added : (label values : List ℕ) (i v : ℕ) → i < length values → ((k : ℕ) → k < i → IsDigitOf (slice_index label k) (slice_index values k)) → IsDigitOf (slice_index label i) v
    → (k : ℕ) → k < i + 1 → IsDigitOf (slice_index label k) (slice_index (slice_set values i v) k)
value_added label values i v inside before here k low =
    ⊎_elim
    (λ (h : k < i). subst (λ (x : ℕ). IsDigitOf (slice_index label k) x) (sym (get_or-set_other values i k v 0 (λ (e : k ≡ i). omega (arith, e, h)))) (before k h))
    (λ (q : (k ≡ i) ⊎ (i < k)). ⊎_elim
    (λ (e : k ≡ i).
    let there : get_or (slice_set values i v) k 0 ≡ v = ap (λ (x : ℕ). get_or (slice_set values i v) x 0) e ∙ get_or-set_same values i v 0 inside in
    subst (λ (x : ℕ). IsDigitOf (slice_index label k) x) (sym there) (subst (λ (x : ℕ). IsDigitOf (slice_index label x) v) (sym e) here))
    (λ (h : i < k). absurd (omega (arith, h, low))) q)
    (differ k i)

-- ---- groups

map_joined : (f : ℕ → ℕ) (p q : List ℕ) → map f (p ++ q) ≡ map f p ++ map f q
map_joined f [] q = refl
map_joined f (c ∷ p) q = ap (λ (x : List ℕ). f c ∷ x) (map_joined f p q)

take_joined : (n : ℕ) (o : List ℕ) → n + 8 ≤ length o → take (n + 8) o ≡ take n o ++ take 8 (drop n o)
take_joined zero o long = refl
take_joined (suc n) [] long = absurd (omega (arith, long))
take_joined (suc n) (c ∷ o) long =
    let more : suc n + 8 ≡ suc (n + 8) = omega arith in
    ap (λ (k : ℕ). take k (c ∷ o)) more ∙ ap (λ (x : List ℕ). c ∷ x) (take_joined n o (omega (arith, long)))

eight_alone : (o : List ℕ) → 8 ≤ length o
    → take 8 o ≡ get_or o 0 0 ∷ get_or o 1 0 ∷ get_or o 2 0 ∷ get_or o 3 0 ∷ get_or o 4 0 ∷ get_or o 5 0 ∷ get_or o 6 0 ∷ get_or o 7 0 ∷ []
eight_alone [] n = absurd (omega (arith, n))
eight_alone (a ∷ []) n = absurd (omega (arith, n))
eight_alone (a ∷ b ∷ []) n = absurd (omega (arith, n))
eight_alone (a ∷ b ∷ c ∷ []) n = absurd (omega (arith, n))
eight_alone (a ∷ b ∷ c ∷ d ∷ []) n = absurd (omega (arith, n))
eight_alone (a ∷ b ∷ c ∷ d ∷ e ∷ []) n = absurd (omega (arith, n))
eight_alone (a ∷ b ∷ c ∷ d ∷ e ∷ f ∷ []) n = absurd (omega (arith, n))
eight_alone (a ∷ b ∷ c ∷ d ∷ e ∷ f ∷ g ∷ []) n = absurd (omega (arith, n))
eight_alone (a ∷ b ∷ c ∷ d ∷ e ∷ f ∷ g ∷ h ∷ o) n = refl

-- the digits of the eight numbers from n on
eight_shown : (o : List ℕ) (n : ℕ) → n + 8 ≤ length o
    → map base32hex_digit (take 8 (drop n o))
    ≡ map base32hex_digit (get_or o n 0 ∷ get_or o (n + 1) 0 ∷ get_or o (n + 2) 0 ∷ get_or o (n + 3) 0 ∷ get_or o (n + 4) 0 ∷ get_or o (n + 5) 0 ∷ get_or o (n + 6) 0 ∷ get_or o (n + 7) 0 ∷ [])
eight_shown o n long =
    ap (map base32hex_digit) (eight_alone (drop n o) (omega (arith, long, length-drop n o)))
    ∙ same_eight _ _ _ _ _ _ _ _ _ _ _ _ _ _ _ _
    (get_or-drop n o 0 0 ∙ ap (λ (k : ℕ). get_or o k 0) (omega arith)) (get_or-drop n o 1 0) (get_or-drop n o 2 0) (get_or-drop n o 3 0)
    (get_or-drop n o 4 0) (get_or-drop n o 5 0) (get_or-drop n o 6 0) (get_or-drop n o 7 0)

-- numbers of digits are small
pub eight_small : (label values : List ℕ) (i : ℕ) → i < 4 → AreValues label values
    → AllByRecursion (λ v. v < 32)
    (get_or values (8 * i) 0 ∷ get_or values (8 * i + 1) 0 ∷ get_or values (8 * i + 2) 0 ∷ get_or values (8 * i + 3) 0
    ∷ get_or values (8 * i + 4) 0 ∷ get_or values (8 * i + 5) 0 ∷ get_or values (8 * i + 6) 0 ∷ get_or values (8 * i + 7) 0 ∷ [])
eight_small label values i low are = (
  (are.1 (8 * i) (omega (arith, low))).0,
  (
    (are.1 (8 * i + 1) (omega (arith, low))).0,
    (
      (are.1 (8 * i + 2) (omega (arith, low))).0,
      (
        (are.1 (8 * i + 3) (omega (arith, low))).0,
        ((are.1 (8 * i + 4) (omega (arith, low))).0, ((are.1 (8 * i + 5) (omega (arith, low))).0, ((are.1 (8 * i + 6) (omega (arith, low))).0, ((are.1 (8 * i + 7) (omega (arith, low))).0, tt)))),
      ),
    ),
  ),
)

-- a group more is read
pub group_read : (hash values octets copied : List ℕ) (i k : ℕ) → length hash ≡ 20 → length values ≡ 32 → i < 4 → copied ≡ octets → length octets ≡ 5
    → base32hex_text octets
    ≡ map base32hex_digit (get_or values (8 * i) 0 ∷ get_or values (8 * i + 1) 0 ∷ get_or values (8 * i + 2) 0 ∷ get_or values (8 * i + 3) 0 ∷ get_or values (8 * i + 4) 0
    ∷ get_or values (8 * i + 5) 0 ∷ get_or values (8 * i + 6) 0 ∷ get_or values (8 * i + 7) 0 ∷ [])
    → base32hex_text (take (5 * i) hash) ≡ map base32hex_digit (take (8 * i) values)
    → base32hex_text (take (5 * (i + 1)) (put_mid (5 * i) k hash copied)) ≡ map base32hex_digit (take (8 * (i + 1)) values)
group_read hash values octets copied i k size many low same five reads before =
    let made : take (5 * (i + 1)) (put_mid (5 * i) k hash copied) ≡ take (5 * i) hash ++ octets =
    take-put_mid (5 * i) k hash copied (5 * (i + 1)) (omega (arith, ap length same, five)) (omega (arith, size, low)) ∙ ap (λ (x : List ℕ). take (5 * i) hash ++ x) same in
    let front : length (take (5 * i) hash) ≡ 5 * i = length-take-le (5 * i) hash (omega (arith, size, low)) in
    let inside : 8 * i + 8 ≤ length values = omega (arith, many, low) in
    let next : 8 * (i + 1) ≡ 8 * i + 8 = omega arith in
    ap base32hex_text made
    ∙ (text-append i (take (5 * i) hash) octets front
    ∙ (ap (λ (x : List ℕ). x ++ base32hex_text octets) before
    ∙ (ap (λ (x : List ℕ). map base32hex_digit (take (8 * i) values) ++ x) (reads ∙ sym (eight_shown values (8 * i) inside))
    ∙ (sym (map_joined base32hex_digit (take (8 * i) values) (take 8 (drop (8 * i) values)))
    ∙ (ap (map base32hex_digit) (sym (take_joined (8 * i) values inside)) ∙ ap (λ (n : ℕ). map base32hex_digit (take n values)) (sym next))))))

-- all is read after four groups
pub all_read : (label hash values : List ℕ) (i : ℕ) → length label ≡ 32 → length hash ≡ 20 → 4 ≤ i → AreValues label values
    → base32hex_text (take (5 * i) hash) ≡ map base32hex_digit (take (8 * i) values) → IsLabelOf label hash
all_read label hash values i long size low are read =
    values_shown label values long are
    ∙ (ap (map base32hex_digit) (sym (take_all (8 * i) values (omega (arith, are.0, low))))
    ∙ (sym read ∙ ap base32hex_text (take_all (5 * i) hash (omega (arith, size, low)))))
