-- IPv6 addresses that are shown are read back.
use Rattle.std.proofs.Common.{◌≡◌, ◌∙◌, ℕ, zero, suc, ◌+◌, ◌-◌, ◌*◌, ◌/◌, ◌%◌, ◌<◌, ◌≤◌, Bool, true, false, ◌==◌, ◌&&◌, cond, nat_lt, nat_le, List, [], ◌∷◌, ◌++◌, map, length, take, drop, replicate, Option, Some, None, refl, sym, subst, ap, append_assoc, append-nil, length-append, length-drop, arith}
use Rattle.std.specs.List.{AllByRecursion, flat_map}
use Rattle.std.proofs.Math.Seq.{drop-append_seam, take-append_seam}
use Rattle.std.proofs.lemmas.Bool.{agree_below_at, and_from, and_left, cond-true, cond-false, cond_both, eq-eqb, eqb-true, le-leb, leb-true, ltb-true}
use Rattle.std.proofs.lemmas.List.{drop-drop, length-take-le}
use Rattle.std.proofs.lemmas.List.Concat.{flat_map-append}
use Rattle.domain_rdata_text.specs.declared.words.Mode.TheVariants.{Bare}
use Rattle.domain_rdata_text.specs.Addresses.{pieces_from}
use Rattle.domain_rdata_text.specs.Hex.{hex_digit, is_hex, hex_value}
use Rattle.domain_rdata_text.specs.Ipv6.{groups_of, group_octets, group_text, coloned, groups_text, longest_run, before_run, shortened, address_text, ipv6_text}
use Rattle.domain_rdata_text.specs.Ipv6.{of_four, read_group, group_or_ipv4, with_piece, are_no_pieces, pieces_octets, read_pieces, only_sixteen, with_zeros, begins_gap, gap_from, read_around, read_ipv6}
use Rattle.domain_rdata_text.specs.Laws.{AreOctets}
use Rattle.domain_rdata_text.proofs.Dotting.{InPiece, piece_one, piece_append}
use Rattle.domain_rdata_text.proofs.Runs.{run_inside, run_split}
use Rattle.domain_rdata_text.proofs.Splitting.{Stays, stays_nil, stays_append, bare_one}
use Rattle.domain_rdata_text.proofs.Tables.{is_bare}

-- ---- digits
digit_hex : (d : ℕ) → d < 16 → is_hex (hex_digit d) ≡ true
digit_hex d h = agree_below_at (λ n. is_hex (hex_digit n)) (λ n. true) 16 d refl h

digit_value : (d : ℕ) → d < 16 → hex_value (hex_digit d) ≡ d
digit_value d h = eqb-true (hex_value (hex_digit d)) d (agree_below_at (λ n. hex_value (hex_digit n) == n) (λ n. true) 16 d refl h)

digit_no_colon : (d : ℕ) → d < 16 → (hex_digit d == 58) ≡ false
digit_no_colon d h = agree_below_at (λ n. hex_digit n == 58) (λ n. false) 16 d refl h

digit_bare : (d : ℕ) → d < 16 → is_bare (hex_digit d) ≡ true
digit_bare d h = agree_below_at (λ n. is_bare (hex_digit n)) (λ n. true) 16 d refl h

-- ---- groups
abbrev pub AreGroups : List ℕ → Type 0
AreGroups gs = AllByRecursion (λ g. g < 65536) gs

-- what holds of a digit, and of two texts, holds of a group's
pub group_each : (P : List ℕ → Type 0) → ((d : ℕ) → d < 16 → P (hex_digit d ∷ [])) → ((u v : List ℕ) → P u → P v → P (u ++ v))
    → (g : ℕ) → g < 65536 → P (group_text g)
group_each P one two g h =
    let a = g / 4096 in
    let b = g / 256 % 16 in
    let c = g / 16 % 16 in
    let d = g % 16 in
    let low : P (hex_digit d ∷ []) = one d (omega arith) in
    let pair : P (hex_digit c ∷ hex_digit d ∷ []) = two (hex_digit c ∷ []) (hex_digit d ∷ []) (one c (omega arith)) low in
    cond_both (nat_lt g 16) (hex_digit g ∷ [])
    (cond (nat_lt g 256) (hex_digit (g / 16) ∷ hex_digit d ∷ []) (cond (nat_lt g 4096) (hex_digit (g / 256) ∷ hex_digit c ∷ hex_digit d ∷ []) (hex_digit a ∷ hex_digit b ∷ hex_digit c ∷ hex_digit d ∷ [])))
    P
    (λ e. one g (ltb-true g 16 e))
    (λ e. cond_both (nat_lt g 256) (hex_digit (g / 16) ∷ hex_digit d ∷ []) (cond (nat_lt g 4096) (hex_digit (g / 256) ∷ hex_digit c ∷ hex_digit d ∷ []) (hex_digit a ∷ hex_digit b ∷ hex_digit c ∷ hex_digit d ∷ [])) P
    (λ f. two (hex_digit (g / 16) ∷ []) (hex_digit d ∷ []) (one (g / 16) (omega (arith, ltb-true g 256 f))) low)
    (λ f. cond_both (nat_lt g 4096) (hex_digit (g / 256) ∷ hex_digit c ∷ hex_digit d ∷ []) (hex_digit a ∷ hex_digit b ∷ hex_digit c ∷ hex_digit d ∷ []) P
    (λ k. two (hex_digit (g / 256) ∷ []) (hex_digit c ∷ hex_digit d ∷ []) (one (g / 256) (omega (arith, ltb-true g 4096 k))) pair)
    (λ k. two (hex_digit a ∷ []) (hex_digit b ∷ hex_digit c ∷ hex_digit d ∷ []) (one a (omega (arith, h)))
    (two (hex_digit b ∷ []) (hex_digit c ∷ hex_digit d ∷ []) (one b (omega arith)) pair))))

abbrev value4 : ℕ → ℕ → ℕ → ℕ → ℕ
value4 a b c d = a * 4096 + b * 256 + c * 16 + d

four_back : (a b c d : ℕ) → a < 16 → b < 16 → c < 16 → d < 16 → of_four (hex_digit a) (hex_digit b) (hex_digit c) (hex_digit d) ≡ Some (value4 a b c d)
four_back a b c d ha hb hc hd =
    let x = hex_digit a in
    let y = hex_digit b in
    let z = hex_digit c in
    let w = hex_digit d in
    cond-true (is_hex x && is_hex y && is_hex z && is_hex w) (Some (value4 (hex_value x) (hex_value y) (hex_value z) (hex_value w))) None
    (and_from (is_hex x && is_hex y && is_hex z) (is_hex w) (and_from (is_hex x && is_hex y) (is_hex z) (and_from (is_hex x) (is_hex y) (digit_hex a ha) (digit_hex b hb)) (digit_hex c hc)) (digit_hex d hd))
    ∙ (ap (λ (n : ℕ). Some (value4 n (hex_value y) (hex_value z) (hex_value w))) (digit_value a ha)
    ∙ (ap (λ (n : ℕ). Some (value4 a n (hex_value z) (hex_value w))) (digit_value b hb)
    ∙ (ap (λ (n : ℕ). Some (value4 a b n (hex_value w))) (digit_value c hc)
    ∙ ap (λ (n : ℕ). Some (value4 a b c n)) (digit_value d hd))))

group_back : (g : ℕ) → g < 65536 → read_group (group_text g) ≡ Some g
group_back g h =
    let a = g / 4096 in
    let b = g / 256 % 16 in
    let c = g / 16 % 16 in
    let d = g % 16 in
    let P : List ℕ → Type 0 = λ t. read_group t ≡ Some g in
    cond_both (nat_lt g 16) (hex_digit g ∷ [])
    (cond (nat_lt g 256) (hex_digit (g / 16) ∷ hex_digit d ∷ []) (cond (nat_lt g 4096) (hex_digit (g / 256) ∷ hex_digit c ∷ hex_digit d ∷ []) (hex_digit a ∷ hex_digit b ∷ hex_digit c ∷ hex_digit d ∷ [])))
    P
    (λ e. let l = ltb-true g 16 e in four_back 0 0 0 g (omega arith) (omega arith) (omega arith) l ∙ ap Some (omega arith))
    (λ e. cond_both (nat_lt g 256) (hex_digit (g / 16) ∷ hex_digit d ∷ []) (cond (nat_lt g 4096) (hex_digit (g / 256) ∷ hex_digit c ∷ hex_digit d ∷ []) (hex_digit a ∷ hex_digit b ∷ hex_digit c ∷ hex_digit d ∷ [])) P
    (λ f. let l = ltb-true g 256 f in four_back 0 0 (g / 16) d (omega arith) (omega arith) (omega (arith, l)) (omega arith) ∙ ap Some (omega arith))
    (λ f. cond_both (nat_lt g 4096) (hex_digit (g / 256) ∷ hex_digit c ∷ hex_digit d ∷ []) (hex_digit a ∷ hex_digit b ∷ hex_digit c ∷ hex_digit d ∷ []) P
    (λ k. let l = ltb-true g 4096 k in four_back 0 (g / 256) c d (omega arith) (omega (arith, l)) (omega arith) (omega arith) ∙ ap Some (omega arith))
    (λ k. four_back a b c d (omega (arith, h)) (omega arith) (omega arith) (omega arith) ∙ ap Some (omega arith))))

bare_group : (g : ℕ) → g < 65536 → Stays Bare (group_text g)
bare_group g h = group_each (Stays Bare) (λ d low. bare_one (hex_digit d) (digit_bare d low)) (stays_append Bare) g h

-- ---- pieces
piece_group : (g : ℕ) → g < 65536 → InPiece 58 (group_text g)
piece_group g h = group_each (InPiece 58) (λ d low. piece_one 58 (hex_digit d) (digit_no_colon d low)) (piece_append 58) g h

pieces_after : (gs : List ℕ) → AreGroups gs → (ps : List (List ℕ)) (p : List ℕ) → pieces_from 58 ps p (coloned gs) ≡ (ps ++ p ∷ []) ++ map group_text gs
pieces_after [] b ps p = sym (append-nil (ps ++ p ∷ []))
pieces_after (g ∷ gs) b ps p =
    piece_group g b.0 (ps ++ p ∷ []) [] (coloned gs)
    ∙ (pieces_after gs b.1 (ps ++ p ∷ []) (group_text g) ∙ append_assoc (ps ++ p ∷ []) (group_text g ∷ []) (map group_text gs))

pieces_back : (end : Bool) (gs : List ℕ) → AreGroups gs → (os : List ℕ) → pieces_octets end (Some os) (map group_text gs) ≡ Some (os ++ flat_map group_octets gs)
pieces_back end [] b os = ap Some (sym (append-nil os))
pieces_back end (g ∷ gs) b os =
    let ps = map group_text gs in
    ap (λ (x : Option ℕ). pieces_octets end (with_piece os (group_or_ipv4 (end && are_no_pieces ps) (group_text g) x)) ps) (group_back g b.0)
    ∙ (pieces_back end gs b.1 (os ++ group_octets g) ∙ ap Some (append_assoc os (group_octets g) (flat_map group_octets gs)))

-- it begins with an octet that is neither a colon nor a backslash
abbrev pub BeginsGroup : List ℕ → Type 0
BeginsGroup u = (c : ℕ) × (v : List ℕ) × (u ≡ c ∷ v) × ((c == 58) ≡ false) × ((c == 92) ≡ false)

digit_no_slash : (d : ℕ) → d < 16 → (hex_digit d == 92) ≡ false
digit_no_slash d h = agree_below_at (λ n. hex_digit n == 92) (λ n. false) 16 d refl h

group_begins : (g : ℕ) → g < 65536 → BeginsGroup (group_text g)
group_begins g h = group_each BeginsGroup (λ d low. (hex_digit d, [], refl, digit_no_colon d low, digit_no_slash d low))
    (λ u v a b. (a.0, a.1 ++ v, ap (λ (x : List ℕ). x ++ v) a.2, a.3, a.4)) g h

read_some : (end : Bool) (w : List ℕ) → 0 < length w → read_pieces end w ≡ pieces_octets end (Some []) (pieces_from 58 [] [] w)
read_some end [] h = absurd (omega (arith, h))
read_some end (c ∷ w) h = refl

begins_some : (u v : List ℕ) → BeginsGroup u → 0 < length (u ++ v)
begins_some u v (c, w, is, differs, plain) = omega (arith, length-append u v, ap (λ (x : List ℕ). length x) is)

groups_back : (end : Bool) (gs : List ℕ) → AreGroups gs → read_pieces end (groups_text gs) ≡ Some (flat_map group_octets gs)
groups_back end [] b = refl
groups_back end (g ∷ gs) b =
    read_some end (groups_text (g ∷ gs)) (begins_some (group_text g) (coloned gs) (group_begins g b.0))
    ∙ (ap (λ (x : List (List ℕ)). pieces_octets end (Some []) x) (piece_group g b.0 [] [] (coloned gs) ∙ pieces_after gs b.1 [] (group_text g))
    ∙ pieces_back end (g ∷ gs) b [])

-- ---- where `::` is
-- it isn't in u
abbrev Passes : List ℕ → Type 0
Passes u = (n : ℕ) (rest : List ℕ) → gap_from n (u ++ rest) ≡ gap_from (n + length u) rest

passes_nil : Passes []
passes_nil n rest = ap (λ (x : ℕ). gap_from x rest) (omega arith)

passes_append : (u v : List ℕ) → Passes u → Passes v → Passes (u ++ v)
passes_append u v hu hv n rest =
    ap (λ (x : List ℕ). gap_from n x) (append_assoc u v rest)
    ∙ (hu n (v ++ rest) ∙ (hv (n + length u) rest ∙ ap (λ (x : ℕ). gap_from x rest) (omega (arith, length-append u v))))

no_gap : (c : ℕ) (w : List ℕ) → (c == 58) ≡ false → begins_gap (c ∷ w) ≡ false
no_gap c [] h = refl
no_gap c (d ∷ w) h = and_left (c == 58) (d == 58) h

passes_one : (c : ℕ) → (c == 58) ≡ false → Passes (c ∷ [])
passes_one c h n rest = cond-false (begins_gap (c ∷ rest)) (Some n) (gap_from (n + 1) rest) (no_gap c rest h)

passes_group : (g : ℕ) → g < 65536 → Passes (group_text g)
passes_group g h = group_each Passes (λ d low. passes_one (hex_digit d) (digit_no_colon d low)) passes_append g h

one_colon : (u : List ℕ) → BeginsGroup u → (rest : List ℕ) → begins_gap (58 ∷ (u ++ rest)) ≡ false
one_colon u (c, v, is, differs, plain) rest = ap (λ (x : List ℕ). begins_gap (58 ∷ (x ++ rest))) is ∙ differs

passes_colon : (u : List ℕ) → BeginsGroup u → Passes u → Passes (58 ∷ u)
passes_colon u b h n rest =
    cond-false (begins_gap (58 ∷ (u ++ rest))) (Some n) (gap_from (n + 1) (u ++ rest)) (one_colon u b rest)
    ∙ (h (n + 1) rest ∙ ap (λ (x : ℕ). gap_from x rest) (omega arith))

passes_coloned : (gs : List ℕ) → AreGroups gs → Passes (coloned gs)
passes_coloned [] b = passes_nil
passes_coloned (g ∷ gs) b =
    passes_append (58 ∷ group_text g) (coloned gs) (passes_colon (group_text g) (group_begins g b.0) (passes_group g b.0)) (passes_coloned gs b.1)

passes_groups : (gs : List ℕ) → AreGroups gs → Passes (groups_text gs)
passes_groups [] b = passes_nil
passes_groups (g ∷ gs) b = passes_append (group_text g) (coloned gs) (passes_group g b.0) (passes_coloned gs b.1)

gap_nowhere : (gs : List ℕ) → AreGroups gs → gap_from 0 (groups_text gs) ≡ None
gap_nowhere gs b = ap (λ (x : List ℕ). gap_from 0 x) (sym (append-nil (groups_text gs))) ∙ passes_groups gs b 0 []

gap_there : (gs : List ℕ) (w : List ℕ) → AreGroups gs → gap_from 0 (groups_text gs ++ 58 ∷ 58 ∷ w) ≡ Some (length (groups_text gs))
gap_there gs w b = passes_groups gs b 0 (58 ∷ 58 ∷ w) ∙ ap Some (omega arith)

-- ---- octets
octets_are_groups : (os : List ℕ) → AreOctets os → AreGroups (groups_of os)
octets_are_groups [] b = tt
octets_are_groups (x ∷ []) b = tt
octets_are_groups (x ∷ y ∷ os) b = (omega (arith, b.0, b.1.0), octets_are_groups os b.1.1)

octets_back : (n : ℕ) (os : List ℕ) → length os ≡ 2 * n → AreOctets os → flat_map group_octets (groups_of os) ≡ os
octets_back n [] h b = refl
octets_back n (x ∷ []) h b = absurd (omega (arith, h))
octets_back n (x ∷ y ∷ os) h b =
    let rest = flat_map group_octets (groups_of os) in
    ap (λ (z : ℕ). z ∷ ((x * 256 + y) % 256) ∷ rest) (omega (arith, b.0, b.1.0))
    ∙ (ap (λ (z : ℕ). x ∷ z ∷ rest) (omega (arith, b.0, b.1.0))
    ∙ ap (λ (z : List ℕ). x ∷ y ∷ z) (octets_back (n - 1) os (omega (arith, h)) b.1.1))

octets_length : (gs : List ℕ) → length (flat_map group_octets gs) ≡ 2 * length gs
octets_length [] = refl
octets_length (g ∷ gs) = omega (arith, octets_length gs)

zero_octets : (n : ℕ) → flat_map group_octets (replicate n 0) ≡ replicate (2 * n) 0
zero_octets zero = refl
zero_octets (suc n) =
    let twice : suc (suc (2 * n)) ≡ 2 * suc n = omega arith in
    ap (λ (z : List ℕ). 0 ∷ 0 ∷ z) (zero_octets n) ∙ ap (λ (k : ℕ). replicate k 0) twice

groups_take : (n : ℕ) (gs : List ℕ) → AreGroups gs → AreGroups (take n gs)
groups_take zero [] h = tt
groups_take zero (g ∷ gs) h = tt
groups_take (suc n) [] h = tt
groups_take (suc n) (g ∷ gs) h = (h.0, groups_take n gs h.1)

groups_drop : (n : ℕ) (gs : List ℕ) → AreGroups gs → AreGroups (drop n gs)
groups_drop zero [] h = tt
groups_drop zero (g ∷ gs) h = h
groups_drop (suc n) [] h = tt
groups_drop (suc n) (g ∷ gs) h = groups_drop n gs h.1

-- ---- both
whole_back : (gs : List ℕ) → AreGroups gs → length gs ≡ 8 → read_ipv6 (groups_text gs) ≡ Some (flat_map group_octets gs)
whole_back gs b eight =
    let os = flat_map group_octets gs in
    ap (read_around (groups_text gs)) (gap_nowhere gs b)
    ∙ (ap only_sixteen (groups_back true gs b) ∙ cond-true (length os == 16) (Some os) None (eq-eqb (length os) 16 (omega (arith, octets_length gs, eight))))

after_gap : (u v : List ℕ) → drop (length u + 2) (u ++ 58 ∷ 58 ∷ v) ≡ v
after_gap u v = sym (drop-drop 2 (length u) (u ++ 58 ∷ 58 ∷ v)) ∙ ap (λ (x : List ℕ). drop 2 x) (drop-append_seam u (58 ∷ 58 ∷ v))

zeros_between : (l r : List ℕ) (n : ℕ) → length l + length r + 2 * n ≡ 16 → 1 ≤ n → with_zeros (Some l) (Some r) ≡ Some (l ++ (replicate (2 * n) 0 ++ r))
zeros_between l r n all some =
    let given = length l + length r in
    let left : 16 - given ≡ 2 * n = omega (arith, all) in
    cond-true (nat_le given 14) (Some (l ++ (replicate (16 - given) 0 ++ r))) None (le-leb given 14 (omega (arith, all, some)))
    ∙ ap (λ (k : ℕ). Some (l ++ (replicate k 0 ++ r))) left

parts_octets : (a z c : List ℕ) → flat_map group_octets (a ++ (z ++ c)) ≡ flat_map group_octets a ++ (flat_map group_octets z ++ flat_map group_octets c)
parts_octets a z c = flat_map-append group_octets a (z ++ c) ∙ ap (λ (x : List ℕ). flat_map group_octets a ++ x) (flat_map-append group_octets z c)

gap_back : (k n : ℕ) (gs : List ℕ) → AreGroups gs → length gs ≡ 8 → 1 ≤ n → k + n ≤ length gs → gs ≡ take k gs ++ (replicate n 0 ++ drop (k + n) gs)
    → read_ipv6 (shortened k n gs) ≡ Some (flat_map group_octets gs)
gap_back k n gs b eight some inside same =
    let a = take k gs in
    let c = drop (k + n) gs in
    let u = groups_text a in
    let v = groups_text c in
    let w = u ++ 58 ∷ 58 ∷ v in
    let l = flat_map group_octets a in
    let r = flat_map group_octets c in
    let ba = groups_take k gs b in
    let bc = groups_drop (k + n) gs b in
    let sizes : length l + length r + 2 * n ≡ 16 = omega (arith, octets_length a, octets_length c, length-take-le k gs (omega (arith, inside)), length-drop (k + n) gs, eight, inside) in
    ap (read_around w) (gap_there a v ba)
    ∙ (ap (λ (x : List ℕ). with_zeros (read_pieces false x) (read_pieces true (drop (length u + 2) w))) (take-append_seam u (58 ∷ 58 ∷ v))
    ∙ (ap (λ (x : List ℕ). with_zeros (read_pieces false u) (read_pieces true x)) (after_gap u v)
    ∙ (ap (λ (x : Option (List ℕ)). with_zeros x (read_pieces true v)) (groups_back false a ba)
    ∙ (ap (λ (x : Option (List ℕ)). with_zeros (Some l) x) (groups_back true c bc)
    ∙ (zeros_between l r n sizes some
    ∙ ap Some (ap (λ (x : List ℕ). l ++ (x ++ r)) (sym (zero_octets n)) ∙ (sym (parts_octets a (replicate n 0) c) ∙ ap (λ (x : List ℕ). flat_map group_octets x) (sym same))))))))

address_back : (gs : List ℕ) → AreGroups gs → length gs ≡ 8 → read_ipv6 (address_text gs) ≡ Some (flat_map group_octets gs)
address_back gs b eight =
    let n = longest_run gs in
    let k = before_run n gs in
    cond_both (nat_le 2 n) (shortened k n gs) (groups_text gs) (λ t. read_ipv6 t ≡ Some (flat_map group_octets gs))
    (λ e. let two = leb-true 2 n e in gap_back k n gs b eight (omega (arith, two)) (run_inside gs two) (run_split gs two))
    (λ e. whole_back gs b eight)

pub ipv6_back : (os : List ℕ) → length os ≡ 16 → AreOctets os → read_ipv6 (ipv6_text os) ≡ Some os
ipv6_back os h b =
    let gs = groups_of os in
    let is : flat_map group_octets gs ≡ os = octets_back 8 os (omega (arith, h)) b in
    address_back gs (octets_are_groups os b) (omega (arith, octets_length gs, ap (λ (x : List ℕ). length x) is, h)) ∙ ap Some is

-- ---- it is a word, and no mark
bare_coloned : (gs : List ℕ) → AreGroups gs → Stays Bare (coloned gs)
bare_coloned [] b = stays_nil Bare
bare_coloned (g ∷ gs) b = stays_append Bare (58 ∷ []) (group_text g ++ coloned gs) (bare_one 58 refl)
    (stays_append Bare (group_text g) (coloned gs) (bare_group g b.0) (bare_coloned gs b.1))

bare_groups : (gs : List ℕ) → AreGroups gs → Stays Bare (groups_text gs)
bare_groups [] b = stays_nil Bare
bare_groups (g ∷ gs) b = stays_append Bare (group_text g) (coloned gs) (bare_group g b.0) (bare_coloned gs b.1)

bare_shortened : (k n : ℕ) (gs : List ℕ) → AreGroups gs → Stays Bare (shortened k n gs)
bare_shortened k n gs b = stays_append Bare (groups_text (take k gs)) (58 ∷ 58 ∷ groups_text (drop (k + n) gs)) (bare_groups (take k gs) (groups_take k gs b))
    (stays_append Bare (58 ∷ 58 ∷ []) (groups_text (drop (k + n) gs)) (stays_append Bare (58 ∷ []) (58 ∷ []) (bare_one 58 refl) (bare_one 58 refl))
    (bare_groups (drop (k + n) gs) (groups_drop (k + n) gs b)))

pub bare_ipv6 : (os : List ℕ) → AreOctets os → Stays Bare (ipv6_text os)
bare_ipv6 os b =
    let gs = groups_of os in
    let n = longest_run gs in
    let h = octets_are_groups os b in
    cond_both (nat_le 2 n) (shortened (before_run n gs) n gs) (groups_text gs) (λ t. Stays Bare t)
    (λ e. bare_shortened (before_run n gs) n gs h) (λ e. bare_groups gs h)

-- it begins with a digit or a colon
abbrev pub BeginsAddress : List ℕ → Type 0
BeginsAddress u = (c : ℕ) × (v : List ℕ) × (u ≡ c ∷ v) × ((c == 92) ≡ false)

groups_begin : (g : ℕ) (gs w : List ℕ) → g < 65536 → BeginsAddress (groups_text (g ∷ gs) ++ w)
groups_begin g gs w h =
    let a = group_begins g h in
    (a.0, (a.1 ++ coloned gs) ++ w, ap (λ (x : List ℕ). (x ++ coloned gs) ++ w) a.2, a.4)

shortened_begins : (gs w : List ℕ) → AreGroups gs → BeginsAddress (groups_text gs ++ 58 ∷ w)
shortened_begins [] w b = (58, w, refl, refl)
shortened_begins (g ∷ gs) w b = groups_begin g gs (58 ∷ w) b.0

whole_begins : (gs : List ℕ) → AreGroups gs → 0 < length gs → BeginsAddress (groups_text gs)
whole_begins [] b some = absurd (omega (arith, some))
whole_begins (g ∷ gs) b some = subst BeginsAddress (append-nil (groups_text (g ∷ gs))) (groups_begin g gs [] b.0)

pub ipv6_begins : (os : List ℕ) → length os ≡ 16 → AreOctets os → BeginsAddress (ipv6_text os)
ipv6_begins os h b =
    let gs = groups_of os in
    let n = longest_run gs in
    let k = before_run n gs in
    let are = octets_are_groups os b in
    let is : flat_map group_octets gs ≡ os = octets_back 8 os (omega (arith, h)) b in
    cond_both (nat_le 2 n) (shortened k n gs) (groups_text gs) BeginsAddress
    (λ e. shortened_begins (take k gs) (58 ∷ groups_text (drop (k + n) gs)) (groups_take k gs are))
    (λ e. whole_begins gs are (omega (arith, octets_length gs, ap (λ (x : List ℕ). length x) is, h)))

pub ipv6_some : (os : List ℕ) → length os ≡ 16 → AreOctets os → 0 < length (ipv6_text os)
ipv6_some os h b =
    let a = ipv6_begins os h b in
    omega (arith, ap (λ (x : List ℕ). length x) a.2)
