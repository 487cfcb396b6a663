-- The labels of a name, as a function of the message and the offset.
use Rattle.std.proofs.Common.{◌≡◌, ℕ, zero, suc, ◌+◌, ◌*◌, ◌-◌, ◌≤◌, ◌<◌, List, [], ◌∷◌, ◌++◌, length, refl, ap, arith, ◌∙◌, true, false, nat_eq, nat_lt, take, drop, slice_range, slice_index, length-append}
use Rattle.std.proofs.lemmas.Grind.{common_steps}
use Rattle.std.proofs.lemmas.List.Folds.{drop_split}
use Rattle.std.proofs.Math.Seq.{take-append-add, drop-cons}
use Rattle.std.proofs.lemmas.Bool.Decides.{nat_tests}
use Rattle.domain_label.specs.Wire.{wire, Root}
use Rattle.domain_reading.specs.Grammar.{OctetAt, LabelAt, PointerAt, Reads, root, label, pointer, Names, LabelRun}
use Rattle.domain_reading.specs.Labels.{read_from, labels_at}

read_root : (n : ℕ) {m : List ℕ} {p : ℕ} → OctetAt m p 0 → read_from (suc n) m p ≡ Root
unfolding read_from
read_root n x = rw x.octet refl

read_label : (n : ℕ) {m : List ℕ} {p : ℕ} {l : List ℕ} → LabelAt m p l → read_from (suc n) m p ≡ l ∷ read_from n m (p + 1 + length l)
unfolding read_from
read_label n {m} {p} {l} x =
    let some : nat_eq (length l) 0 ≡ false = grind (arith, nat_tests) in
    let low : nat_lt (length l) 64 ≡ true = grind (arith, nat_tests) in
    rw (x.head, some, low) (ap (λ a. a ∷ read_from n m (p + 1 + length l)) x.octets)

read_pointer : (n : ℕ) {m : List ℕ} {p q : ℕ} → PointerAt m p q → read_from (suc n) m p ≡ read_from n m q
unfolding read_from
read_pointer n {m} {p} {q} x =
    let some : nat_eq (slice_index m p) 0 ≡ false = grind (arith, nat_tests) in
    let high : nat_lt (slice_index m p) 64 ≡ false = grind (arith, nat_tests) in
    let to : 256 * slice_index m p + slice_index m (p + 1) - 49152 ≡ q = omega arith in
    rw (some, high) (ap (λ a. read_from n m a) to)

read_reads : (n : ℕ) {m : List ℕ} {p k : ℕ} {ls : List (List ℕ)} → Reads m p k ls → length ls + k ≤ n → read_from n m p ≡ ls
read_reads zero (root x) h = absurd (omega arith)
read_reads zero (label x r) h = absurd (omega arith)
read_reads zero (pointer x lt r) h = absurd (omega arith)
read_reads (suc n) (root x) h = read_root n x
read_reads (suc n) (label {l = l} x r) h = read_label n x ∙ ap (λ ls. l ∷ ls) (read_reads n r (omega arith))
read_reads (suc n) (pointer x lt r) h = read_pointer n x ∙ read_reads n r (omega arith)

labels_few : {m : List ℕ} {p k : ℕ} {ls : List (List ℕ)} → Reads m p k ls → 2 * length ls ≤ length (wire ls) + 1
labels_few (root x) = omega arith
labels_few (label {l = l} {rest = rest} x r) = omega (arith, labels_few r, x.nonempty, length-append l (wire rest))
labels_few (pointer x lt r) = labels_few r

-- the labels of a name are those that the function gives
pub labels_named : {m : List ℕ} {p : ℕ} {ls : List (List ℕ)} → Names 255 m p ls → labels_at m p ≡ ls
unfolding labels_at
labels_named n = read_reads 383 n.reads (omega (arith, labels_few n.reads))

pub slice_join : (m : List ℕ) (a b c : ℕ) → a ≤ b → b ≤ c → c ≤ length m → slice_range m a c ≡ slice_range m a b ++ slice_range m b c
slice_join m a b c ab bc cm =
    let n : length (slice_range m a b) ≡ b - a = grind (arith, common_steps) in
    let k : c - a ≡ length (slice_range m a b) + (c - b) = omega arith in
    ap (λ xs. take (c - a) xs) (drop_split m a b ab) ∙ ap (λ n. take n (slice_range m a b ++ drop b m)) k ∙ take-append-add (slice_range m a b) (drop b m) (c - b)

pub slice_one : (m : List ℕ) (p : ℕ) → p < length m → slice_range m p (p + 1) ≡ slice_index m p ∷ []
slice_one m p inside =
    let k : p + 1 - p ≡ 1 = omega arith in
    ap (λ n. take n (drop p m)) k ∙ ap (λ xs. take 1 xs) (drop-cons m p 0 inside)

-- labels with no pointer between them are the octets of the message
pub flat_wire : {m : List ℕ} {r : ℕ} (fs : List (List ℕ)) (p : ℕ) → LabelRun m p fs r → OctetAt m r 0 → (slice_range m p (r + 1) ≡ wire (fs ++ Root)) × (r ≡ p + length (wire fs))
flat_wire {m} {r} [] p e x = (rw e (slice_one m r x.inside ∙ ap (λ o. o ∷ []) x.octet), omega (arith, e))
flat_wire {m} {r} (f ∷ fs) p a x =
    let tail = flat_wire fs (p + 1 + length f) a.1 x in
    let l = a.0 in
    let end : r ≡ p + length (wire (f ∷ fs)) = omega (arith, tail.1, length-append f (wire fs)) in
    let one = slice_join m p (p + 1) (r + 1) (omega arith) (omega arith) (omega (arith, x.inside)) in
    let two = slice_join m (p + 1) (p + 1 + length f) (r + 1) (omega arith) (omega (arith, tail.1)) (omega (arith, x.inside)) in
    let head = slice_one m p (omega (arith, l.inside)) in
    (one ∙ ap (λ xs. xs ++ slice_range m (p + 1) (r + 1)) (head ∙ ap (λ o. o ∷ []) l.head) ∙ ap (λ xs. length f ∷ xs) (two ∙ ap (λ xs. xs ++ slice_range m (p + 1 + length f) (r + 1)) l.octets ∙ ap (λ xs. f ++ xs) tail.0), end)
