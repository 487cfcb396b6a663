-- The names that are remembered end within the octets.
use Rattle.std.proofs.Common.{◌≡◌, ◌∙◌, ℕ, ◌≤◌, List, ◌++◌, append_assoc, ◌<◌, ◌∷◌, [], length, take, arith, ap, sym, subst, length-append, false, Bool}
use Rattle.std.specs.List.{All}
use Rattle.std.proofs.Props.{props}
use Rattle.std.proofs.lemmas.Grind.{common_steps}
use Rattle.std.proofs.lemmas.List.Elements.{All-weaker, All-append, All-take}
use Rattle.arrayvec.specs.ArrayVec.{ArrayVec}
use Rattle.domain_compress.specs.Compressing.{RememberedLabel, remembered_from, remembered_too, remembered_within}
use Rattle.domain_compress.specs.Forgetting.{kept_first, left_first, EndsWithin, entries_within, entries_all, all_end, within_inside}
use Rattle.domain_compress.specs.Hashes.{IsKnown}
use Rattle.domain_compress.specs.declared.written.Written.{Written}
use Rattle.domain_compress.specs.Written.{remembered, all_remembered}
use Rattle.domain_compress.proofs.Remembering.{remembered_size, remembered_push}

inside_more : (k n : ℕ) (ws : List RememberedLabel) → k ≤ n → All (EndsWithin k) ws → All (EndsWithin n) ws
inside_more k n ws le h = All-weaker (EndsWithin k) (EndsWithin n) (λ w end. omega (arith, end, le)) ws h

-- After more octets they do, too.
pub inside_longer : (t u : List ℕ) (s : List ℕ) (ws : List RememberedLabel) → u ≡ t ++ s → All (EndsWithin (length t)) ws → All (EndsWithin (length u)) ws
inside_longer t u s ws all h = inside_more (length t) (length u) ws (omega (arith, ap length all, length-append t s)) h

-- So do the names that are remembered with them.
pub inside_too : (t u s o : List ℕ) (ws vs : List RememberedLabel) (start : ℕ) (labels : List (List ℕ)) → u ≡ t ++ s → o ≡ u → All (EndsWithin (length t)) ws → vs ≡ remembered_too ws start (length o) labels → All (EndsWithin (length u)) vs
inside_too t u s o ws vs start labels all read old told =
    let end : length o ≡ length u = ap length read in
    let new : All (EndsWithin (length u)) (remembered_from start (length o) labels) = all_end (EndsWithin (length u)) start (length o) labels (λ at. omega (arith, end)) in
    let both = All-append (EndsWithin (length u)) ws (remembered_from start (length o) labels) (inside_longer t u s ws all old) new in
    subst (All (EndsWithin (length u))) (sym told) (All-take (EndsWithin (length u)) 128 (ws ++ remembered_from start (length o) labels) both)

taken_few : (n : ℕ) (xs : List RememberedLabel) → length (take n xs) ≤ n
taken_few n xs = grind (arith, common_steps)

taken_whole : (n e : ℕ) (t : List ℕ) → e ≤ n → e ≤ length t → e ≤ length (take n t)
taken_whole n e t one two = grind (arith, common_steps)

-- At most 128 are remembered.
pub few_too : (vs : List Written) (xs : List RememberedLabel) → all_remembered vs ≡ take 128 xs → length vs ≤ 128
few_too vs xs told = omega (arith, remembered_size vs, ap length told, taken_few 128 xs)

-- The entries that remain after a cut end within the octets that remain.
pub inside_cut : (t u : List ℕ) (n : ℕ) (ws vs : List RememberedLabel) → u ≡ take n t → All (EndsWithin (length t)) ws → vs ≡ remembered_within n ws → All (EndsWithin (length u)) vs
inside_cut t u n ws vs cut old told =
    let both = within_inside n (length t) ws old in
    subst (All (EndsWithin (length u))) (sym told) (All-weaker (λ w. (w.end ≤ n) × (w.end ≤ length t)) (EndsWithin (length u)) (λ w h. omega (arith, taken_whole n w.end t h.0 h.1, ap length cut)) (remembered_within n ws) both)

-- What is left of the entries up to here, and of those that follow, is what is left of all.
pub entry_left : (n : ℕ) (all : List RememberedLabel) (kept new rest more : List Written) (v w : Written) → all ≡ all_remembered kept ++ remembered_within n (all_remembered rest) → rest ≡ v ∷ more → v.end ≤ n → remembered w ≡ remembered v → new ≡ kept ++ w ∷ [] → all ≡ all_remembered new ++ remembered_within n (all_remembered more)
entry_left n all kept new rest more v w before is within same pushed =
    let left = remembered_within n (all_remembered more) in
    let split : remembered_within n (all_remembered rest) ≡ remembered v ∷ left = ap (λ ws. remembered_within n (all_remembered ws)) is ∙ kept_first n (remembered v) (all_remembered more) within in
    let one : all_remembered new ≡ all_remembered kept ++ remembered v ∷ [] = remembered_push new kept w pushed ∙ ap (λ r. all_remembered kept ++ r ∷ []) same in
    before ∙ (ap (λ r. all_remembered kept ++ r) split ∙ sym (ap (λ r. r ++ left) one ∙ append_assoc (all_remembered kept) (remembered v ∷ []) left))

pub entry_cut : (n : ℕ) (all : List RememberedLabel) (kept rest more : List Written) (v : Written) → all ≡ all_remembered kept ++ remembered_within n (all_remembered rest) → rest ≡ v ∷ more → n < v.end → all ≡ all_remembered kept ++ remembered_within n (all_remembered more)
entry_cut n all kept rest more v before is past =
    before ∙ ap (λ r. all_remembered kept ++ r) (ap (λ ws. remembered_within n (all_remembered ws)) is ∙ left_first n (remembered v) (all_remembered more) past)

known_once : (hashed : Bool) (t : List ℕ) (ws : List Written) → (a b : IsKnown hashed t ws) → a ≡ b
known_once hashed t ws = Prim.hlevel props

inside_once : (n : ℕ) (ws : List Written) → (a b : All (EndsWithin n) (all_remembered ws)) → a ≡ b
inside_once n ws = Prim.hlevel props

few_once : (ws : List Written) → (a b : length ws ≤ 128) → a ≡ b
few_once ws = Prim.hlevel props

-- What is known of the remaining octets is known of the target's.
pub known_left : (hashed left : Bool) (len : ℕ) (o t u : List ℕ) (ws vs : List Written) → o ≡ t → u ≡ take len t → IsKnown hashed t ws → (IsKnown hashed o ws → IsKnown left (take len o) vs) → IsKnown left u vs
known_left hashed left len o t u ws vs read cut known kept =
    let same : take len o ≡ u = ap (take len) read ∙ sym cut in
    subst (λ m. IsKnown left m vs) same (kept (subst (λ m. IsKnown hashed m ws) (sym read) known))

pub few_left : (old new : List Written) → length new ≤ length old → length old ≤ 128 → length new ≤ 128
few_left old new fewer few = omega (arith, fewer, few)

-- Entries that are all kept, and what is known of them, make one composer, whichever proofs it has.
pub held_all : {A : Type 0} (t : List ℕ) (F : (v : ArrayVec Written) → IsKnown false t v.items → All (EndsWithin (length t)) (all_remembered v.items) → length v.items ≤ 128 → A) (v u : ArrayVec Written) → v ≡ u → (a : IsKnown false t v.items) (b : All (EndsWithin (length t)) (all_remembered v.items)) (c : length v.items ≤ 128) (d : IsKnown false t u.items) (e : All (EndsWithin (length t)) (all_remembered u.items)) (f : length u.items ≤ 128) → F v a b c ≡ F u d e f
held_all t F v u same a b c =
    let P : ArrayVec Written → Type 0 = λ x. (d : IsKnown false t x.items) (e : All (EndsWithin (length t)) (all_remembered x.items)) (f : length x.items ≤ 128) → F v a b c ≡ F x d e f in
    subst P same (λ d e f. ap (λ k. F v k b c) (known_once false t v.items a d) ∙ (ap (λ k. F v d k c) (inside_once (length t) v.items b e) ∙ ap (F v d e) (few_once v.items c f)))

-- A write over octets leaves the entries.
pub entries_stay : (t u : List ℕ) (v : ArrayVec Written) → length u ≡ length t → All (EndsWithin (length t)) (all_remembered v.items) → v ≡ entries_within (length u) v
entries_stay t u v same inside = ap (λ ws. record v { items = ws }) (sym (entries_all (length u) v.items (subst (λ n. All (EndsWithin n) (all_remembered v.items)) (sym same) inside)))
