-- The hashes of the labels at the offsets.
use Rattle.std.proofs.Common.{◌≡◌, ℕ, zero, suc, ◌+◌, ◌≤◌, ◌<◌, nat_le, length, List, [], ◌∷◌, ◌++◌, take, drop, ◌-◌, Bool, true, false, ◌&&◌, refl, sym, ap, subst, ◌∙◌, arith, slice_index, slice_index_or, slice_set, slice_range, length-append, get_or-append-add}
use Rattle.std.proofs.Math.Seq.{drop-append-add}
use Rattle.std.proofs.lemmas.Grind.{common_steps}
use Rattle.std.proofs.lemmas.List.{get_or_append_left, drop-take, take-take}
use Rattle.std.proofs.lemmas.Bool.{false≢true, leb-true}
use Rattle.std.proofs.lemmas.List.Elements.{All-nil, All-cons, All-head, All-tail, All-push, All-take, All-weaker, AllWithin-more_set, filter_passes}
use Rattle.std.proofs.Props.{props}
use Rattle.std.specs.List.{All, AllWithin}
use Rattle.domain_compress.specs.declared.written.Written.{Written}
use Rattle.domain_compress.specs.Compressing.{RememberedLabel, remembered_within}
use Rattle.domain_compress.specs.Forgetting.{EndsWithin}
use Rattle.domain_compress.specs.Written.{remembered, all_remembered}
use Rattle.domain_compress.specs.Ends.{label_hash}
use Rattle.domain_flat.proofs.LabelBounds.{Meets, meets_length, meets_next, read_at}
use Rattle.domain_compress.specs.Hashes.{hash_at, HasHash, IsHashed, IsKnown, StandFrom, StayKnown}

slice_more : (t u : List ℕ) (a b : ℕ) → b ≤ length t → slice_range (t ++ u) a b ≡ slice_range t a b
slice_more t u a b h = grind (arith, common_steps)

-- A label stays where it stands after more octets.
hash_more : (t u : List ℕ) (p e h : ℕ) → HasHash t p e h → HasHash (t ++ u) p e h
hash_more t u p e h x =
    let head : slice_index (t ++ u) p ≡ slice_index t p = get_or_append_left t u 0 p (omega (arith, x.1.0, x.1.1)) in
    let label : slice_range (t ++ u) (p + 1) (p + 1 + slice_index t p) ≡ slice_range t (p + 1) (p + 1 + slice_index t p) = slice_more t u (p + 1) (p + 1 + slice_index t p) (omega (arith, x.1.0, x.1.1)) in
    let same : hash_at (t ++ u) p ≡ hash_at t p = ap (λ n. label_hash (slice_range (t ++ u) (p + 1) (p + 1 + n))) head ∙ ap label_hash label in
    (omega (arith, head, x.0), (omega (arith, head, x.1.0), omega (arith, x.1.1, length-append t u)), x.2 ∙ sym same)

index_left : (t : List ℕ) (n p : ℕ) → p < n → slice_index (take n t) p ≡ slice_index t p
index_left t n p h = grind (arith, common_steps)

slice_left : (t : List ℕ) (n a b : ℕ) → a ≤ b → b ≤ n → slice_range (take n t) a b ≡ slice_range t a b
slice_left t n a b le h =
    let split : n ≡ a + (n - a) = omega (arith, le, h) in
    let rest : drop a (take n t) ≡ take (n - a) (drop a t) = ap (λ k. drop a (take k t)) split ∙ drop-take a (n - a) t in
    ap (take (b - a)) rest ∙ take-take (b - a) (n - a) (drop a t) (omega (arith, le, h))

length_left : (t : List ℕ) (n e : ℕ) → e ≤ n → e ≤ length t → e ≤ length (take n t)
length_left t n e one two = grind (arith, common_steps)

-- So it does where octets are cut after its name.
pub hash_left : (t : List ℕ) (n p e h : ℕ) → e ≤ n → HasHash t p e h → HasHash (take n t) p e h
hash_left t n p e h before x =
    let head : slice_index (take n t) p ≡ slice_index t p = index_left t n p (omega (arith, x.1.0, before)) in
    let label : slice_range (take n t) (p + 1) (p + 1 + slice_index t p) ≡ slice_range t (p + 1) (p + 1 + slice_index t p) = slice_left t n (p + 1) (p + 1 + slice_index t p) (omega arith) (omega (arith, x.1.0, before)) in
    let same : hash_at (take n t) p ≡ hash_at t p = ap (λ k. label_hash (slice_range (take n t) (p + 1) (p + 1 + k))) head ∙ ap label_hash label in
    (omega (arith, head, x.0), (omega (arith, head, x.1.0), length_left t n e before x.1.1), x.2 ∙ sym same)

pub known_more : (hashed : Bool) (t u : List ℕ) (ws : List Written) → IsKnown hashed t ws → IsKnown hashed (t ++ u) ws
known_more hashed t u ws known = λ e k d lt. hash_more t u _ _ _ (known e k d lt)

pub both_true : (a b : Bool) → (a && b) ≡ true → (a ≡ true) × (b ≡ true)
both_true true b e = (refl, e)
both_true false b e = absurd (false≢true e)

-- A label that is met is short, and inside.
pub label_short : (labels : List ℕ) (at : ℕ) (before after : List (List ℕ)) → Meets labels at before after → at < length labels → (slice_index labels at < 64) × (at + 1 + slice_index labels at ≤ length labels)
label_short labels at before [] m lt = absurd (omega (arith, lt, meets_length labels at before [] m))
label_short labels at before (y ∷ ys) m lt =
    let size : slice_index labels at ≡ length y = read_at labels at before y ys m in
    (omega (arith, size, m.back.0), omega (arith, size, meets_length labels _ _ _ (meets_next labels at before y ys m)))

slice_after : (b u : List ℕ) (i j : ℕ) → slice_range (b ++ u) (length b + i) (length b + j) ≡ slice_range u i j
slice_after b u i j =
    let size : length b + j - (length b + i) ≡ j - i = omega arith in
    ap (λ k. take k (drop (length b + i) (b ++ u))) size ∙ ap (take (j - i)) (drop-append-add b u i)

index_there : (t labels : List ℕ) (start end at : ℕ) → StandFrom t labels start end → at < length labels → slice_index t (start + at) ≡ slice_index labels at
index_there t labels start end at s lt =
    let u = labels ++ s.after in
    ap (λ x. slice_index x (start + at)) s.whole ∙ (ap (λ k. slice_index (s.before ++ u) (k + at)) s.starts ∙ (get_or-append-add s.before u at 0 ∙ get_or_append_left labels s.after 0 at lt))

slice_there : (t labels : List ℕ) (start end at n : ℕ) → StandFrom t labels start end → at + 1 + n ≤ length labels → slice_range t (start + at + 1) (start + at + 1 + n) ≡ slice_range labels (at + 1) (at + 1 + n)
slice_there t labels start end at n s fits =
    let u = labels ++ s.after in
    let from : start + at + 1 ≡ length s.before + (at + 1) = omega (arith, s.starts) in
    let to : start + at + 1 + n ≡ length s.before + (at + 1 + n) = omega (arith, s.starts) in
    ap (λ x. slice_range x (start + at + 1) (start + at + 1 + n)) s.whole ∙ (ap (λ i. slice_range (s.before ++ u) i (start + at + 1 + n)) from ∙ (ap (λ j. slice_range (s.before ++ u) (length s.before + (at + 1)) j) to ∙ (slice_after s.before u (at + 1) (at + 1 + n) ∙ slice_more labels s.after (at + 1) (at + 1 + n) fits)))

-- The hash of a label is that of the label where it stands.
pub written_hash : (t labels : List ℕ) (start end at n h : ℕ) (before after : List (List ℕ)) → Meets labels at before after → at < length labels → n ≡ slice_index labels at → h ≡ label_hash (slice_range labels (at + 1) (at + 1 + n)) → StandFrom t labels start end → HasHash t (start + at) end h
written_hash t labels start end at n h before after m lt size hashed s =
    let short = label_short labels at before after m lt in
    let head : slice_index t (start + at) ≡ n = index_there t labels start end at s lt ∙ sym size in
    let label = slice_there t labels start end at n s (omega (arith, size, short.1)) in
    (omega (arith, head, size, short.0), (omega (arith, head, size, short.1, s.within), s.inside), hashed ∙ (ap label_hash (sym label) ∙ ap (λ k. label_hash (slice_range t (start + at + 1) (start + at + 1 + k))) (sym head)))

-- One offset more is remembered.
pub known_push : (t : List ℕ) (new old : List Written) (w : Written) → All (IsHashed t) old → IsHashed t w → new ≡ old ++ w ∷ [] → All (IsHashed t) new
known_push t new old w known here e = subst (All (IsHashed t)) (sym e) (All-push (IsHashed t) old w known here)

-- One of the remaining offsets is remembered.
pub known_kept : (t : List ℕ) (n : ℕ) (stands holds : Bool) (new kept : List Written) (w : Written) → IsKnown holds (take n t) kept → (stands ≡ true → IsHashed t w) → w.end ≤ n → new ≡ kept ++ w ∷ [] → IsKnown (stands && holds) (take n t) new
known_kept t n stands holds new kept w known here before e both =
    let b = both_true stands holds both in
    subst (λ ws. All (IsHashed (take n t)) ws) (sym e) (All-push (IsHashed (take n t)) kept w (known b.1) (hash_left t n w.offset w.end w.hash before (here b.0)))

-- What is known is known in one way.
known_once : (hashed : Bool) (t : List ℕ) (ws : List Written) → (a b : IsKnown hashed t ws) → a ≡ b
known_once hashed t ws = Prim.hlevel props

-- So what holds it is one, whichever proof it has.
pub held_once : {A : Type 0} (hashed : Bool) (t : List ℕ) (ws : List Written) (F : IsKnown hashed t ws → A) (j k : IsKnown hashed t ws) → F j ≡ F k
held_once hashed t ws F j k = ap F (known_once hashed t ws j k)

-- The hash of the first of the offsets is known, and so are those of the rest.
pub known_first : (hashed : Bool) (t : List ℕ) (ws more : List Written) (w : Written) → ws ≡ w ∷ more → IsKnown hashed t ws → hashed ≡ true → IsHashed t w
known_first hashed t ws more w e known counts = subst (λ vs. All (IsHashed t) vs) e (known counts) 0 w (omega arith)

pub known_rest : (hashed : Bool) (t : List ℕ) (ws more : List Written) (w : Written) → ws ≡ w ∷ more → IsKnown hashed t ws → IsKnown hashed t more
known_rest hashed t ws more w e known = λ counts i d lt. subst (λ vs. All (IsHashed t) vs) e (known counts) (suc i) d (omega (arith, lt))

-- What is known of the old entries is known of the new ones, too, where their hashes count.
pub known_still : (hashed counted : Bool) (t t' s labels : List ℕ) (start end : ℕ) (ws vs : List Written) → (counted ≡ true → hashed ≡ true) → t' ≡ t ++ s → IsKnown hashed t ws → (counted ≡ true → StayKnown labels start end ws vs) → StandFrom t' labels start end → IsKnown counted t' vs
known_still hashed counted t t' s labels start end ws vs was all known kept there =
    λ counts. kept counts t' there (subst (λ m. IsKnown hashed m ws) (sym all) (known_more hashed t s ws known) (was counts))

-- An entry whose hash alone is another has the same offset and end.
pub remembered_set : (ws : List Written) (i : ℕ) (w d : Written) → i < length ws → remembered w ≡ remembered (slice_index_or ws i d) → all_remembered (slice_set ws i w) ≡ all_remembered ws
remembered_set [] i w d lt same = absurd (omega (arith, lt))
remembered_set (v ∷ ws) zero w d lt same = ap (λ r. r ∷ all_remembered ws) same
remembered_set (v ∷ ws) (suc i) w d lt same = ap (λ rs. remembered v ∷ rs) (remembered_set ws i w d (omega (arith, lt)) same)

-- One hash more is known.
pub hashed_next : (t : List ℕ) (stands stand : Bool) (ws : List Written) (i : ℕ) (w : Written) → i < length ws → (stands ≡ true → IsHashed t w) → (stand ≡ true → AllWithin (IsHashed t) ws 0 i) → (stands && stand) ≡ true → AllWithin (IsHashed t) (slice_set ws i w) 0 (i + 1)
hashed_next t stands stand ws i w lt here known both =
    let b = both_true stands stand both in
    AllWithin-more_set ws i w lt (IsHashed t) (known b.1) (here b.0)

all_left : (t : List ℕ) (n : ℕ) (ws : List Written) → All (IsHashed t) ws → All (EndsWithin n) (all_remembered ws) → All (IsHashed (take n t)) ws
all_left t n [] known inside = All-nil (IsHashed (take n t))
all_left t n (w ∷ ws) known inside =
    let here = hash_left t n w.offset w.end w.hash (All-head (EndsWithin n) (remembered w) (all_remembered ws) inside) (All-head (IsHashed t) w ws known) in
    All-cons (IsHashed (take n t)) w ws here (all_left t n ws (All-tail (IsHashed t) w ws known) (All-tail (EndsWithin n) (remembered w) (all_remembered ws) inside))

-- Where a cut leaves the first ones alone, their hashes stay known.
pub first_known : (t : List ℕ) (n left : ℕ) (ws vs : List Written) → All (IsHashed t) ws → remembered_within n (all_remembered ws) ≡ all_remembered (take left ws) → vs ≡ take left ws → All (IsHashed (take n t)) vs
first_known t n left ws vs known kept is =
    let test : RememberedLabel → Bool = λ w. nat_le w.end n in
    let passed = All-weaker (λ w. test w ≡ true) (EndsWithin n) (λ w h. leb-true w.end n h) (remembered_within n (all_remembered ws)) (filter_passes test (all_remembered ws)) in
    let inside : All (EndsWithin n) (all_remembered (take left ws)) = subst (All (EndsWithin n)) kept passed in
    subst (All (IsHashed (take n t))) (sym is) (all_left t n (take left ws) (All-take (IsHashed t) left ws known) inside)
