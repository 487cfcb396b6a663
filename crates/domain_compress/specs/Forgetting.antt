-- What a composer remembers, and what a cut leaves of it.
use Rattle.std.specs.Prelude.{◌≡◌, ℕ, zero, suc, ◌+◌, ◌≤◌, ◌<◌, Bool, true, false, nat_lt, nat_le, if◌then◌else◌, List, [], ◌∷◌, ◌++◌, length, take, filter, refl}
use Rattle.std.specs.List.{All}
use Rattle.std.proofs.Common.{ap, ◌∙◌, sym, subst, arith}
use Rattle.std.proofs.lemmas.Grind.{common_steps}
use Rattle.std.proofs.lemmas.List.Elements.{All-nil, All-cons, All-head, All-tail, All-map, All-weaker, filter_passes}
use Rattle.std.proofs.lemmas.Bool.{leb-true}
use Rattle.std.proofs.lemmas.List.{length-map}
use Rattle.domain_compress.specs.declared.written.Written.{Written}
use Rattle.domain_compress.specs.Written.{remembered, all_remembered}
use Rattle.arrayvec.specs.ArrayVec.{ArrayVec}
use Rattle.domain_compress.specs.MayWrite.{MayWrite}
use Rattle.domain_compress.specs.Compressing.{RememberedLabel, Compresses, pointer, flat, unread, AddsCompressed, remembered_from, remembered_within}

-- The name ends within the first n octets.
abbrev pub EndsWithin : ℕ → RememberedLabel → Type 0
EndsWithin n w = w.end ≤ n

-- So does each name of the entries.
abbrev pub AllWithin : ℕ → List Written → Type 0
AllWithin n ws = All (EndsWithin n) (all_remembered ws)

-- It ends after them.
abbrev pub EndsAfter : ℕ → RememberedLabel → Type 0
EndsAfter n w = n < w.end

-- the entries of such names
abbrev pub entries_within : ℕ → ArrayVec Written → ArrayVec Written
entries_within n v = record v { items = filter (λ w. nat_le w.end n) v.items }

-- The first k entries are those that a cut to n octets leaves.
abbrev pub LeavesFirst : ℕ → List Written → ℕ → Type 0
LeavesFirst n ws k = (k ≤ length ws) × (remembered_within n (all_remembered ws) ≡ all_remembered (take k ws))

-- The entries become those that a cut to n octets leaves.
abbrev pub AreLeft : ℕ → List Written → List Written → Type 0
AreLeft n old new = all_remembered new ≡ remembered_within n (all_remembered old)

le_of : (a n : ℕ) → nat_le a n ≡ true → a ≤ n
le_of a n h = leb-true a n h

-- They end within the octets, as they say.
pub entries_inside : (n : ℕ) (ws : List Written) → All (EndsWithin n) (all_remembered (filter (λ w. nat_le w.end n) ws))
entries_inside n ws =
    let test : Written → Bool = λ w. nat_le w.end n in
    All-map (EndsWithin n) remembered (filter test ws) (All-weaker (λ w. test w ≡ true) (λ w. w.end ≤ n) (λ w h. le_of w.end n h) (filter test ws) (filter_passes test ws))

within_first : (n k : ℕ) (b : Bool) (w : RememberedLabel) (vs : List RememberedLabel) → nat_le w.end n ≡ b → w.end ≤ k → All (λ v. (v.end ≤ n) × (v.end ≤ k)) vs → All (λ v. (v.end ≤ n) × (v.end ≤ k)) (if b then w ∷ vs else vs)
within_first n k true w vs test end rest = All-cons (λ v. (v.end ≤ n) × (v.end ≤ k)) w vs (le_of w.end n test, end) rest
within_first n k false w vs test end rest = rest

-- What a cut leaves ends within it, and where it did.
pub within_inside : (n k : ℕ) (ws : List RememberedLabel) → All (EndsWithin k) ws → All (λ w. (w.end ≤ n) × (w.end ≤ k)) (remembered_within n ws)
within_inside n k [] h = All-nil (λ w. (w.end ≤ n) × (w.end ≤ k))
within_inside n k (w ∷ ws) h = within_first n k (nat_le w.end n) w (remembered_within n ws) refl (All-head (EndsWithin k) w ws h) (within_inside n k ws (All-tail (EndsWithin k) w ws h))

fewer_first : (b : Bool) (w : Written) (ws vs : List Written) → length vs ≤ length ws → length (if b then w ∷ vs else vs) ≤ length (w ∷ ws)
fewer_first true w ws vs h = omega (arith, h)
fewer_first false w ws vs h = omega (arith, h)

fewer : (n : ℕ) (ws : List Written) → length (filter (λ w. nat_le w.end n) ws) ≤ length ws
fewer n [] = omega arith
fewer n (w ∷ ws) = fewer_first (nat_le w.end n) w ws (filter (λ v. nat_le v.end n) ws) (fewer n ws)

-- They are no more than there were.
pub few_entries : (n : ℕ) (ws : List Written) → length ws ≤ 128 → length (filter (λ w. nat_le w.end n) ws) ≤ 128
few_entries n ws few = omega (arith, few, fewer n ws)

entry_kept : (n : ℕ) (w : Written) (ws : List Written) → w.end ≤ n → filter (λ v. nat_le v.end n) (w ∷ ws) ≡ w ∷ filter (λ v. nat_le v.end n) ws
entry_kept n w ws h = grind (arith, common_steps)

-- They are all where all end within the octets.
pub entries_all : (n : ℕ) (ws : List Written) → All (EndsWithin n) (all_remembered ws) → filter (λ w. nat_le w.end n) ws ≡ ws
entries_all n [] h = refl
entries_all n (w ∷ ws) h =
    entry_kept n w ws (All-head (EndsWithin n) (remembered w) (all_remembered ws) h) ∙ ap (λ vs. w ∷ vs) (entries_all n ws (All-tail (EndsWithin n) (remembered w) (all_remembered ws) h))

-- So what is remembered is the same.
pub all_left : (n k : ℕ) (ws : List Written) → k ≡ n → All (EndsWithin n) (all_remembered ws) → all_remembered (filter (λ w. nat_le w.end k) ws) ≡ all_remembered ws
all_left n k ws same h = ap all_remembered (entries_all k ws (subst (λ j. All (EndsWithin j) (all_remembered ws)) (sym same) h))

-- What two steps leave is as it was.
pub remembered_still : (a b c : List RememberedLabel) → b ≡ a → c ≡ b → c ≡ a
remembered_still a b c first second = second ∙ first

-- What may be written is decided by the octets and what is remembered.
pub may_write_so : (t u : List ℕ) (ws vs : List RememberedLabel) (ls : List (List ℕ)) (s : List ℕ) → t ≡ u → ws ≡ vs → MayWrite t ws ls s → MayWrite u vs ls s
may_write_so t u ws vs ls s octets memory may = subst (λ x. MayWrite x vs ls s) octets (subst (λ x. MayWrite t x ls s) memory may)

-- A name that ends within the octets is left by a cut to them, and another isn't.
pub kept_first : (n : ℕ) (w : RememberedLabel) (ws : List RememberedLabel) → w.end ≤ n → remembered_within n (w ∷ ws) ≡ w ∷ remembered_within n ws
kept_first n w ws h = grind (arith, common_steps)

pub left_first : (n : ℕ) (w : RememberedLabel) (ws : List RememberedLabel) → n < w.end → remembered_within n (w ∷ ws) ≡ remembered_within n ws
left_first n w ws h = grind (arith, common_steps)

-- A cut after all of the names forgets none.
pub all_within : (n : ℕ) (ws : List RememberedLabel) → All (EndsWithin n) ws → remembered_within n ws ≡ ws
all_within n [] h = refl
all_within n (w ∷ ws) h = kept_first n w ws (All-head (EndsWithin n) w ws h) ∙ ap (λ vs. w ∷ vs) (all_within n ws (All-tail (EndsWithin n) w ws h))

-- Of two cuts the shorter decides.
pub within_twice : (n k : ℕ) (ws : List RememberedLabel) → n ≤ k → remembered_within n (remembered_within k ws) ≡ remembered_within n ws
within_twice n k [] h = refl
within_twice n k (w ∷ ws) h =
    let rest = within_twice n k ws h in
    grind (arith, common_steps)

-- What ends after the cut is forgotten, however many are taken.
none_taken : (n m : ℕ) (vs : List RememberedLabel) → All (EndsAfter n) vs → remembered_within n (take m vs) ≡ []
none_taken n zero vs h = refl
none_taken n (suc m) [] h = refl
none_taken n (suc m) (v ∷ vs) h = left_first n v (take m vs) (All-head (EndsAfter n) v vs h) ∙ none_taken n m vs (All-tail (EndsAfter n) v vs h)

old_left : (n m : ℕ) (ws vs : List RememberedLabel) → length ws ≤ m → All (EndsWithin n) ws → All (EndsAfter n) vs → remembered_within n (take m (ws ++ vs)) ≡ ws
old_left n m [] vs few old new = none_taken n m vs new
old_left n zero (w ∷ ws) vs few old new = absurd (omega (arith, few))
old_left n (suc m) (w ∷ ws) vs few old new =
    kept_first n w (take m (ws ++ vs)) (All-head (EndsWithin n) w ws old) ∙ ap (λ us. w ∷ us) (old_left n m ws vs (omega (arith, few)) (All-tail (EndsWithin n) w ws old) new)

-- Each of the offsets is of a name that ends there.
first_of : (P : RememberedLabel → Type 0) (some low : Bool) (w : RememberedLabel) (ws : List RememberedLabel) → P w → All P ws → All P (if some then (if low then w ∷ ws else []) else [])
first_of P true true w ws h all = All-cons P w ws h all
first_of P true false w ws h all = All-nil P
first_of P false low w ws h all = All-nil P

pub all_end : (P : RememberedLabel → Type 0) (p end : ℕ) (ls : List (List ℕ)) → ((at : ℕ) → P (record { at = at; end = end })) → All P (remembered_from p end ls)
all_end P p end [] h = All-nil P
all_end P p end (l ∷ ls) h = first_of P (nat_lt 0 (length l)) (nat_lt p 16384) (record { at = p; end = end }) (remembered_from (p + 1 + length l) end ls) (h p) (all_end P (p + 1 + length l) end ls h)

-- Where labels were written, so were octets.
some_written : (t : List ℕ) (ws : List RememberedLabel) (ls : List (List ℕ)) (l : List ℕ) (labels : List (List ℕ)) (s : List ℕ) → Compresses t ws ls (l ∷ labels) s → 0 < length s
some_written t ws ls l labels s (pointer suffix read) = omega arith
some_written t ws ls l labels s (flat none) = omega arith
some_written t ws ls l labels s (unread suffix none) = omega arith

new_after : (t : List ℕ) (ws : List RememberedLabel) (ls labels : List (List ℕ)) (s : List ℕ) → Compresses t ws ls labels s → All (EndsAfter (length t)) (remembered_from (length t) (length t + length s) labels)
new_after t ws ls [] s written = All-nil (EndsAfter (length t))
new_after t ws ls (l ∷ labels) s written =
    let some = some_written t ws ls l labels s written in
    all_end (EndsAfter (length t)) (length t) (length t + length s) (l ∷ labels) (λ at. omega (arith, some))

-- Of as many entries as many are remembered.
pub few_remembered : (ws : List Written) → length ws ≤ 128 → length (all_remembered ws) ≤ 128
few_remembered ws few = omega (arith, few, length-map ws remembered)

-- A name that was written is forgotten by a cut before it, and no other is.
pub name_cut : (t : List ℕ) (ws vs : List RememberedLabel) (ls : List (List ℕ)) (u : List ℕ) → length ws ≤ 128 → All (EndsWithin (length t)) ws → AddsCompressed t ws ls u vs → remembered_within (length t) vs ≡ ws
name_cut t ws vs ls u few old adds =
    ap (remembered_within (length t)) adds.offsets ∙ old_left (length t) 128 ws (remembered_from (length t) (length t + length adds.octets) adds.labels) few old (new_after t ws ls adds.labels adds.octets adds.compresses)
