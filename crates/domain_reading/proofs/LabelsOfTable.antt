-- The labels that stand at the offsets of a table.
use Rattle.std.proofs.Common.{◌≡◌, ℕ, suc, ◌+◌, ◌-◌, ◌≤◌, ◌<◌, List, [], ◌∷◌, ◌++◌, length, refl, sym, ap, subst, arith, ◌∙◌, Bool, true, false, nat_lt, cond, take, set, slice_range, slice_index, length-append}
use Rattle.std.proofs.lemmas.Grind.{common_steps}
use Rattle.std.proofs.lemmas.List.{take_more_set}
use Rattle.std.proofs.lemmas.List.Elements.{All-nil, All-cons, All-head, All-tail, All-push}
use Rattle.std.proofs.lemmas.Bool.Decides.{nat_tests}
use Rattle.domain_reading.specs.Grammar.{OctetAt, LabelAt}
use Rattle.domain_reading.specs.Offsets.{entry_offset, IsLabelOffset, AreLabelOffsets, label_at, labels_at_entries}
use Rattle.domain_reading.proofs.LabelsAt.{slice_join, slice_one}

pub labels_none : (m : List ℕ) (base : ℕ) → labels_at_entries m base [] ≡ []
unfolding labels_at_entries
labels_none m base = refl

pub labels_first : (m : List ℕ) (base e : ℕ) (es : List ℕ) → labels_at_entries m base (e ∷ es) ≡ label_at m (entry_offset base e) ∷ labels_at_entries m base es
unfolding labels_at_entries
labels_first m base e es = refl

pub labels-append : (m : List ℕ) (base : ℕ) (xs ys : List ℕ) → labels_at_entries m base (xs ++ ys) ≡ labels_at_entries m base xs ++ labels_at_entries m base ys
unfolding labels_at_entries
labels-append m base [] ys = refl
labels-append m base (x ∷ xs) ys = ap (λ ls. label_at m (entry_offset base x) ∷ ls) (labels-append m base xs ys)

pub labels_last : (m : List ℕ) (base e : ℕ) (es : List ℕ) → labels_at_entries m base (es ++ e ∷ []) ≡ labels_at_entries m base es ++ label_at m (entry_offset base e) ∷ []
labels_last m base e es = labels-append m base es (e ∷ []) ∙ ap (λ ls. labels_at_entries m base es ++ ls) (labels_first m base e [] ∙ ap (λ ls. label_at m (entry_offset base e) ∷ ls) (labels_none m base))

pub length-labels : (m : List ℕ) (base : ℕ) (es : List ℕ) → length (labels_at_entries m base es) ≡ length es
unfolding labels_at_entries
length-labels m base [] = refl
length-labels m base (e ∷ es) = ap suc (length-labels m base es)

-- the offsets of a table without its first entry, and without its last one
pub stand_first : (m : List ℕ) (base e : ℕ) (es : List ℕ) → AreLabelOffsets m base (e ∷ es) → IsLabelOffset m (entry_offset base e)
stand_first m base e es a = All-head (λ e. IsLabelOffset m (entry_offset base e)) e es a

pub stand_rest : (m : List ℕ) (base e : ℕ) (es : List ℕ) → AreLabelOffsets m base (e ∷ es) → AreLabelOffsets m base es
stand_rest m base e es a = All-tail (λ e. IsLabelOffset m (entry_offset base e)) e es a

pub stand_last : (m : List ℕ) (base e : ℕ) (es : List ℕ) → AreLabelOffsets m base (es ++ e ∷ []) → AreLabelOffsets m base es × IsLabelOffset m (entry_offset base e)
stand_last m base e [] a = (All-nil _, stand_first m base e [] a)
stand_last m base e (x ∷ xs) a =
    let r = stand_last m base e xs (stand_rest m base x (xs ++ e ∷ []) a) in
    (All-cons (λ e. IsLabelOffset m (entry_offset base e)) x xs (stand_first m base x (xs ++ e ∷ []) a) r.0, r.1)

-- ---- a message with more octets after it

offset_more : (m u : List ℕ) (p : ℕ) → IsLabelOffset m p → IsLabelOffset (m ++ u) p × (label_at (m ++ u) p ≡ label_at m p)
offset_more m u p h =
    let head : slice_index (m ++ u) p ≡ slice_index m p = grind (arith, common_steps) in
    rw head ((h.0, omega (arith, h.1, length-append m u)), grind (arith, common_steps))

pub record More (m u : List ℕ) (base : ℕ) (es : List ℕ) : Type 0 where
  pub stand : AreLabelOffsets (m ++ u) base es
  pub same : labels_at_entries (m ++ u) base es ≡ labels_at_entries m base es

pub more_stand : (m u : List ℕ) (base : ℕ) (es : List ℕ) → AreLabelOffsets m base es → More m u base es
more_stand m u base [] a = record { stand = All-nil _; same = labels_none (m ++ u) base ∙ sym (labels_none m base) }
more_stand m u base (e ∷ es) a =
    let first = offset_more m u (entry_offset base e) (stand_first m base e es a) in
    let rest = more_stand m u base es (stand_rest m base e es a) in
    record {
      stand = All-cons (λ e. IsLabelOffset (m ++ u) (entry_offset base e)) e es first.0 rest.stand;
      same = labels_first (m ++ u) base e es ∙ (ap (λ l. l ∷ labels_at_entries (m ++ u) base es) first.1 ∙ ap (λ ls. label_at m (entry_offset base e) ∷ ls) rest.same) ∙ sym (labels_first m base e es);
    }

-- ---- what stands at an offset

pub label_offset : (m l : List ℕ) (p : ℕ) → LabelAt m p l → IsLabelOffset m p × (label_at m p ≡ l)
label_offset m l p x = rw x.head ((x.short, x.inside), x.octets)

pub root_offset : (m : List ℕ) (p : ℕ) → OctetAt m p 0 → IsLabelOffset m p × (label_at m p ≡ [])
root_offset m p x = rw x.octet ((omega arith, omega (arith, x.inside)), grind (arith, common_steps))

-- ---- one entry more

pub next_near : (base at len : ℕ) (compressed : Bool) → len ≤ 254 → (compressed ≡ false → at ≡ base + len) → entry_offset base (cond compressed (at + 32768) len) ≡ at
next_near base at len false few near =
    let low : nat_lt len 32768 ≡ true = grind (arith, nat_tests) in
    rw low (sym (near refl))
next_near base at len true few near =
    let high : nat_lt (at + 32768) 32768 ≡ false = grind (arith, nat_tests) in
    rw high (omega arith)

pub record Noted (m : List ℕ) (base : ℕ) (es : List ℕ) (n : ℕ) (ls : List (List ℕ)) : Type 0 where
  pub count : n ≡ length ls
  pub table : labels_at_entries m base (take n es) ≡ ls
  pub stand : AreLabelOffsets m base (take n es)
  pub room : length es ≡ 128

pub note : {m : List ℕ} {base n at : ℕ} {es : List ℕ} {ls : List (List ℕ)} {l : List ℕ} (e : ℕ) → Noted m base es n ls → entry_offset base e ≡ at → IsLabelOffset m at → label_at m at ≡ l → n < 128 → Noted m base (set es n e) (n + 1) (ls ++ l ∷ [])
note {m} {base} {n} {at} {es} {ls} {l} e t here is label few =
    let more : take (n + 1) (set es n e) ≡ take n es ++ e ∷ [] = take_more_set es n e (omega (arith, t.room)) in
    let there : IsLabelOffset m (entry_offset base e) = rw here is in
    record {
      count = omega (arith, t.count, length-append ls (l ∷ []));
      table = ap (λ es. labels_at_entries m base es) more ∙ (labels_last m base e (take n es) ∙ (ap (λ xs. xs ++ label_at m (entry_offset base e) ∷ []) t.table ∙ ap (λ k. ls ++ k ∷ []) (ap (λ p. label_at m p) here ∙ label)));
      stand = subst (λ es. AreLabelOffsets m base es) (sym more) (All-push (λ e. IsLabelOffset m (entry_offset base e)) (take n es) e t.stand there);
      room = grind (arith, common_steps, t.room);
    }

pub no_label : (m : List ℕ) (base : ℕ) (es : List ℕ) → length es ≡ 128 → Noted m base es 0 []
no_label m base es room = record { count = refl; table = labels_none m base; stand = All-nil _; room = room }

-- ---- an entry less, at either end

empty_list : (es : List ℕ) → length es ≡ 0 → es ≡ []
empty_list [] e = refl
empty_list (x ∷ es) e = absurd (omega (arith, e))

pub labels_over : (m : List ℕ) (base : ℕ) (es : List ℕ) → length es ≡ 0 → labels_at_entries m base es ≡ []
labels_over m base es e = ap (λ es. labels_at_entries m base es) (empty_list es e) ∙ labels_none m base

pub record Taken (m : List ℕ) (base e : ℕ) (rest : List ℕ) : Type 0 where
  pub here : IsLabelOffset m (entry_offset base e)
  pub stand : AreLabelOffsets m base rest

pub taken : (m : List ℕ) (base e : ℕ) (es rest : List ℕ) → es ≡ e ∷ rest → AreLabelOffsets m base es → Taken m base e rest
taken m base e es rest is a =
    let b = subst (λ es. AreLabelOffsets m base es) is a in
    record { here = stand_first m base e rest b; stand = stand_rest m base e rest b }

pub taken_back : (m : List ℕ) (base e : ℕ) (es rest : List ℕ) → es ≡ rest ++ e ∷ [] → AreLabelOffsets m base es → Taken m base e rest
taken_back m base e es rest is a =
    let b = stand_last m base e rest (subst (λ es. AreLabelOffsets m base es) is a) in
    record { here = b.1; stand = b.0 }

pub labels_taken : (m : List ℕ) (base e p : ℕ) (es rest : List ℕ) (l : List ℕ) → es ≡ e ∷ rest → p ≡ entry_offset base e → l ≡ label_at m p → labels_at_entries m base es ≡ l ∷ labels_at_entries m base rest
labels_taken m base e p es rest l is here label =
    ap (λ es. labels_at_entries m base es) is ∙ (labels_first m base e rest ∙ ap (λ l. l ∷ labels_at_entries m base rest) (ap (λ p. label_at m p) (sym here) ∙ sym label))

pub labels_taken_back : (m : List ℕ) (base e p : ℕ) (es rest : List ℕ) (l : List ℕ) → es ≡ rest ++ e ∷ [] → p ≡ entry_offset base e → l ≡ label_at m p → labels_at_entries m base es ≡ labels_at_entries m base rest ++ l ∷ []
labels_taken_back m base e p es rest l is here label =
    ap (λ es. labels_at_entries m base es) is ∙ (labels_last m base e rest ∙ ap (λ l. labels_at_entries m base rest ++ l ∷ []) (ap (λ p. label_at m p) (sym here) ∙ sym label))

pub slice_taken : (es : List ℕ) (a b : ℕ) → a < b → b ≤ length es → slice_range es a b ≡ slice_index es a ∷ slice_range es (a + 1) b
slice_taken es a b some all = slice_join es a (a + 1) b (omega arith) (omega arith) all ∙ ap (λ xs. xs ++ slice_range es (a + 1) b) (slice_one es a (omega arith))

pub slice_size : (es : List ℕ) (a b : ℕ) → b ≤ length es → length (slice_range es a b) ≡ b - a
slice_size es a b all = grind (arith, common_steps)
