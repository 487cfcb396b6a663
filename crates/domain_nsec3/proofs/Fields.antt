-- The fields of NSEC3 and NSEC3PARAM data, by their offsets.
use Rattle.std.proofs.Common.{◌≡◌, ◌∙◌, ℕ, ◌+◌, ◌-◌, ◌≤◌, ◌<◌, zero, suc, List, [], ◌∷◌, ◌++◌, length, take, drop, get_or, refl, sym, ap, length-drop, drop-cons, add-one, arith}
use Rattle.std.proofs.lemmas.List.{drop-drop, length-take-le, take-append-drop}
use Rattle.std.proofs.lemmas.Nat.{be_bytes_2}
use Rattle.std.specs.Int.{w16, to_be_bytes, from_be_bytes}
use Rattle.std.specs.Prelude.{slice_index}
use Rattle.domain_descriptor.specs.Fields.{AreData}
use Rattle.domain_descriptor.specs.Table.{known_fields}
use Rattle.domain_nsec3.specs.Records.{parameters}

-- where the salt and the next hashed owner name of NSEC3 data end
pub nsec3_ends : (m : List ℕ) → AreData (known_fields 50 1) m 0
    → (5 + slice_index m 4 < length m) × (6 + slice_index m 4 + slice_index m (5 + slice_index m 4) ≤ length m)
nsec3_ends m h =
    let after1 = h.2 in
    let after2 = after1.2 in
    let after3 = after2.2 in
    let after4 = after3.2 in
    let salt_at : after2.0 ≡ 4 = omega (arith, h.1.0, after1.1.0, after2.1.0) in
    let salt_is : slice_index m after2.0 ≡ slice_index m 4 = ap (slice_index m) salt_at in
    let next_at : after3.0 ≡ 5 + slice_index m 4 = omega (arith, salt_at, salt_is, after3.1.1) in
    let next_is : slice_index m after3.0 ≡ slice_index m (5 + slice_index m 4) = ap (slice_index m) next_at in
    (omega (arith, next_at, after4.1.0.0), omega (arith, next_at, next_is, after4.1.0.1, after4.1.0.2))

-- where the salt of NSEC3PARAM data ends
pub param_end : (m : List ℕ) → AreData (known_fields 51 1) m 0 → 5 + slice_index m 4 ≡ length m
param_end m h =
    let after1 = h.2 in
    let after2 = after1.2 in
    let after3 = after2.2 in
    let salt_at : after2.0 ≡ 4 = omega (arith, h.1.0, after1.1.0, after2.1.0) in
    let salt_is : slice_index m after2.0 ≡ slice_index m 4 = ap (slice_index m) salt_at in
    omega (arith, salt_at, salt_is, after3.1.1, after3.2)

two_small : (c d : ℕ) → c < 256 → d < 256 → (i : ℕ) → get_or (c ∷ d ∷ []) i 0 < 256
two_small c d hc hd zero = hc
two_small c d hc hd (suc zero) = hd
two_small c d hc hd (suc (suc i)) = omega arith

number_back : (c d n : ℕ) → c < 256 → d < 256 → n ≡ from_be_bytes w16 (c ∷ d ∷ []) → to_be_bytes w16 n ≡ c ∷ d ∷ []
number_back c d n hc hd is = be_bytes_2 (c ∷ d ∷ []) n refl (two_small c d hc hd) is

-- the fields of NSEC3PARAM data are its octets
pub param_joined : (m salt : List ℕ) (n : ℕ) → ((i : ℕ) → get_or m i 0 < 256) → 5 ≤ length m → 5 + get_or m 4 0 ≡ length m
    → n ≡ from_be_bytes w16 (get_or m 2 0 ∷ get_or m 3 0 ∷ []) → salt ≡ drop 5 m → parameters (get_or m 0 0) (get_or m 1 0) n salt ≡ m
param_joined [] salt n small some ends is is_salt = absurd (omega (arith, some))
param_joined (a ∷ []) salt n small some ends is is_salt = absurd (omega (arith, some))
param_joined (a ∷ b ∷ []) salt n small some ends is is_salt = absurd (omega (arith, some))
param_joined (a ∷ b ∷ c ∷ []) salt n small some ends is is_salt = absurd (omega (arith, some))
param_joined (a ∷ b ∷ c ∷ d ∷ []) salt n small some ends is is_salt = absurd (omega (arith, some))
param_joined (a ∷ b ∷ c ∷ d ∷ k ∷ o) salt n small some ends is is_salt =
    let counted : length salt ≡ k = ap length is_salt ∙ omega (arith, ends) in
    ap (λ (x : List ℕ). a ∷ b ∷ (x ++ length salt ∷ salt)) (number_back c d n (small 2) (small 3) is)
    ∙ (ap (λ (x : ℕ). a ∷ b ∷ c ∷ d ∷ x ∷ salt) counted ∙ ap (λ (x : List ℕ). a ∷ b ∷ c ∷ d ∷ k ∷ x) is_salt)

-- octets, then others behind an octet that counts them, and the rest
counted_joined : (o next types : List ℕ) (k j : ℕ) → k < length o → j ≡ get_or o k 0 → k + 1 + j ≤ length o → next ≡ take j (drop (k + 1) o) → types ≡ drop (k + 1 + j) o
    → take k o ++ length next ∷ (next ++ types) ≡ o
counted_joined o next types k j inside is_j whole is_next is_types =
    let rest = drop (k + 1) o in
    let many : length next ≡ get_or o k 0 = ap length is_next ∙ (length-take-le j rest (omega (arith, whole, length-drop (k + 1) o)) ∙ is_j) in
    let joined : next ++ types ≡ rest =
    ap (λ (x : List ℕ). x ++ types) is_next
    ∙ (ap (λ (x : List ℕ). take j rest ++ x) (is_types ∙ sym (drop-drop j (k + 1) o)) ∙ take-append-drop j rest) in
    let head : drop k o ≡ get_or o k 0 ∷ rest = drop-cons o k 0 inside ∙ ap (λ (x : ℕ). get_or o k 0 ∷ drop x o) (sym (add-one k)) in
    ap (λ (x : List ℕ). take k o ++ length next ∷ x) joined
    ∙ (ap (λ (x : ℕ). take k o ++ x ∷ rest) many ∙ (ap (λ (x : List ℕ). take k o ++ x) (sym head) ∙ take-append-drop k o))

-- the fields of NSEC3 data are its octets
pub nsec3_joined : (m salt next types : List ℕ) (n k j : ℕ) → ((i : ℕ) → get_or m i 0 < 256) → k ≡ get_or m 4 0 → 5 + k < length m → j ≡ get_or (drop 5 m) k 0 → 5 + (k + 1 + j) ≤ length m
    → n ≡ from_be_bytes w16 (get_or m 2 0 ∷ get_or m 3 0 ∷ []) → salt ≡ take k (drop 5 m) → next ≡ take j (drop (k + 1) (drop 5 m)) → types ≡ drop (k + 1 + j) (drop 5 m)
    → parameters (get_or m 0 0) (get_or m 1 0) n salt ++ length next ∷ (next ++ types) ≡ m
nsec3_joined [] salt next types n k j small is_k some is_j whole is is_salt is_next is_types = absurd (omega (arith, some))
nsec3_joined (a ∷ []) salt next types n k j small is_k some is_j whole is is_salt is_next is_types = absurd (omega (arith, some))
nsec3_joined (a ∷ b ∷ []) salt next types n k j small is_k some is_j whole is is_salt is_next is_types = absurd (omega (arith, some))
nsec3_joined (a ∷ b ∷ c ∷ []) salt next types n k j small is_k some is_j whole is is_salt is_next is_types = absurd (omega (arith, some))
nsec3_joined (a ∷ b ∷ c ∷ d ∷ []) salt next types n k j small is_k some is_j whole is is_salt is_next is_types = absurd (omega (arith, some))
nsec3_joined (a ∷ b ∷ c ∷ d ∷ e ∷ o) salt next types n k j small is_k some is_j whole is is_salt is_next is_types =
    let inside : k < length o = omega (arith, some) in
    let counted : length salt ≡ e = ap length is_salt ∙ (length-take-le k o (omega (arith, inside)) ∙ is_k) in
    let tail : salt ++ length next ∷ (next ++ types) ≡ o =
    ap (λ (x : List ℕ). x ++ length next ∷ (next ++ types)) is_salt ∙ counted_joined o next types k j inside is_j (omega (arith, whole)) is_next is_types in
    ap (λ (x : List ℕ). a ∷ b ∷ ((x ++ length salt ∷ salt) ++ length next ∷ (next ++ types))) (number_back c d n (small 2) (small 3) is)
    ∙ (ap (λ (x : ℕ). a ∷ b ∷ c ∷ d ∷ x ∷ (salt ++ length next ∷ (next ++ types))) counted
    ∙ ap (λ (x : List ℕ). a ∷ b ∷ c ∷ d ∷ e ∷ x) tail)
