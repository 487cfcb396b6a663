-- A name is read from some octets of the message, and whatever the others are.
use Rattle.std.proofs.Common.{◌≡◌, ℕ, ◌+◌, ◌-◌, ◌≤◌, ◌<◌, inl, inr, List, [], ◌∷◌, ◌++◌, suc, length, drop, slice_index, slice_range, refl, sym, ap, subst, arith, ◌∙◌, length-append, length-drop}
use Rattle.std.proofs.lemmas.Grind.{common_steps}
use Rattle.std.proofs.lemmas.List.{ext_get_or}
use Rattle.domain_reading.specs.Grammar.{LabelAt, PointerAt, Reads, root, label, pointer, Names, LabelRun}
use Rattle.domain_reading.specs.Touched.{Touches, IsKept, ReadsFrom}
use Rattle.domain_reading.proofs.Reading.{reads_once}

-- the octets that a name is read from are in the message
pub touches_inside : {m : List ℕ} {p k : ℕ} {ls : List (List ℕ)} → (r : Reads m p k ls) → (i : ℕ) → Touches r i → i < length m
touches_inside (root x) i h = omega (arith, h, x.inside)
touches_inside (label x r) i (inl h) = omega (arith, h.0, h.1, x.inside)
touches_inside (label x r) i (inr h) = touches_inside r i h
touches_inside (pointer x lt r) i (inl h) = omega (arith, h.0, h.1, x.inside)
touches_inside (pointer x lt r) i (inr h) = touches_inside r i h

range_kept : (m w : List ℕ) (a n : ℕ) → a + n ≤ length m → a + n ≤ length w → ((i : ℕ) → a ≤ i → i < a + n → slice_index w i ≡ slice_index m i) → slice_range w a (a + n) ≡ slice_range m a (a + n)
range_kept m w a n im iw same =
    let nm : length (slice_range m a (a + n)) ≡ n = grind (arith, common_steps) in
    let nw : length (slice_range w a (a + n)) ≡ n = grind (arith, common_steps) in
    ext_get_or 0 (slice_range w a (a + n)) (slice_range m a (a + n)) (nw ∙ sym nm) (λ i h.
    let lt : i < n = omega (arith, h, nw) in
    let e : slice_index w (a + i) ≡ slice_index m (a + i) = same (a + i) (omega arith) (omega arith) in
    let ew : slice_index (slice_range w a (a + n)) i ≡ slice_index w (a + i) = grind (arith, common_steps) in
    let em : slice_index (slice_range m a (a + n)) i ≡ slice_index m (a + i) = grind (arith, common_steps) in
    ew ∙ e ∙ sym em)

label_kept : {m : List ℕ} {p : ℕ} {l : List ℕ} (w : List ℕ) → LabelAt m p l → ((i : ℕ) → p ≤ i → i ≤ p + length l → IsKept m w i) → LabelAt w p l
label_kept {m} {p} {l} w x same =
    let end : p + length l < length w = (same (p + length l) (omega arith) (omega arith)).0 in
    record {
      nonempty = x.nonempty;
      short = x.short;
      head = (same p (omega arith) (omega arith)).1 ∙ x.head;
      inside = omega (arith, end);
      octets = range_kept m w (p + 1) (length l) x.inside (omega (arith, end)) (λ i ge lt. (same i (omega arith) (omega arith)).1) ∙ x.octets;
    }

pointer_kept : {m : List ℕ} {p q : ℕ} (w : List ℕ) → PointerAt m p q → ((i : ℕ) → p ≤ i → i ≤ p + 1 → IsKept m w i) → PointerAt w p q
pointer_kept {m} {p} w x same =
    let first = same p (omega arith) (omega arith) in
    let second = same (p + 1) (omega arith) (omega arith) in
    record {
      inside = second.0;
      head = omega (arith, x.head, first.1);
      target = omega (arith, x.target, first.1, second.1);
    }

-- the same labels, from octets of the same offsets
pub record ReadsSo {m : List ℕ} {p k : ℕ} {ls : List (List ℕ)} (w : List ℕ) (r : Reads m p k ls) : Type 0 where
  pub reads : Reads w p k ls
  pub touches : (i : ℕ) → Touches reads i → Touches r i

-- Where the octets stay that a name is read from, it is read.
pub reads_kept : {m : List ℕ} {p k : ℕ} {ls : List (List ℕ)} (w : List ℕ) → (r : Reads m p k ls) → ((i : ℕ) → Touches r i → IsKept m w i) → ReadsSo w r
reads_kept {m} {p} w (root x) same =
    let kept = same p refl in
    record { reads = root (record { inside = kept.0; octet = kept.1 ∙ x.octet }); touches = λ i h. h }
reads_kept w (label x r) same =
    let rest = reads_kept w r (λ i h. same i (inr h)) in
    record {
      reads = label (label_kept w x (λ i ge le. same i (inl (ge, le)))) rest.reads;
      touches = λ i h. elim h [ inl here ↦ inl here | inr there ↦ inr (rest.touches i there) ];
    }
reads_kept w (pointer x lt r) same =
    let rest = reads_kept w r (λ i h. same i (inr h)) in
    record {
      reads = pointer (pointer_kept w x (λ i ge le. same i (inl (ge, le)))) lt rest.reads;
      touches = λ i h. elim h [ inl here ↦ inl here | inr there ↦ inr (rest.touches i there) ];
    }

-- A name is read from its offset on where no pointer is followed.
pub touches_flat : {m : List ℕ} {p k : ℕ} {ls : List (List ℕ)} → (r : Reads m p k ls) → k ≡ 0 → (i : ℕ) → Touches r i → p ≤ i
touches_flat (root x) e i h = omega (arith, h)
touches_flat (label x r) e i (inl h) = h.0
touches_flat (label x r) e i (inr h) = omega (arith, touches_flat r e i h)
touches_flat (pointer x lt r) e i h = absurd (omega (arith, e))

-- ---- octets before an offset that are written over

drop_kept : (n : ℕ) (m w : List ℕ) → drop n w ≡ drop n m → (i : ℕ) → n ≤ i → i < length m → IsKept m w i
drop_kept n m w e i ge lt =
    let size : length w - n ≡ length m - n = sym (length-drop n w) ∙ (ap length e ∙ length-drop n m) in
    let back : n + (i - n) ≡ i = omega arith in
    let at : (o : List ℕ) → slice_index (drop n o) (i - n) ≡ slice_index o i = λ o. grind (arith, common_steps) in
    (omega (arith, size), sym (at w) ∙ (ap (λ o. slice_index o (i - n)) e ∙ at m))

drop_reads : {n : ℕ} {m : List ℕ} {p : ℕ} {ls : List (List ℕ)} (w : List ℕ) → (x : ReadsFrom n m p ls) → drop n w ≡ drop n m → ReadsSo w x.reads
drop_reads {n} {m} w x e = reads_kept w x.reads (λ i h. drop_kept n m w e i (x.after i h) (touches_inside x.reads i h))

-- What is read from the offset n on is read whatever stands before it.
pub after_kept : {n : ℕ} {m : List ℕ} {p : ℕ} {ls : List (List ℕ)} (w : List ℕ) → ReadsFrom n m p ls → drop n w ≡ drop n m → ReadsFrom n w p ls
after_kept w x e =
    let so = drop_reads w x e in
    record { pointers = x.pointers; reads = so.reads; after = λ i h. x.after i (so.touches i h) }

pub after_more : {n : ℕ} {m : List ℕ} {p : ℕ} {ls : List (List ℕ)} (u : List ℕ) → ReadsFrom n m p ls → ReadsFrom n (m ++ u) p ls
after_more {n} {m} u x =
    let so = reads_kept (m ++ u) x.reads (λ i h. let lt = touches_inside x.reads i h in (omega (arith, lt, length-append m u), grind (arith, common_steps))) in
    record { pointers = x.pointers; reads = so.reads; after = λ i h. x.after i (so.touches i h) }

-- A name that is read from the offset n on is a name whatever stands before it.
pub names_kept : {n j : ℕ} {m : List ℕ} {p : ℕ} {xs ls : List (List ℕ)} (w : List ℕ) → ReadsFrom n m p xs → drop n w ≡ drop n m → Names j m p ls → Names j w p ls
names_kept {n} {j} {m} {p} {xs} {ls} w x e name =
    let same = reads_once x.reads name.reads in
    let so = drop_reads w x e in
    record {
      pointers = name.pointers;
      reads = subst (λ zs. Reads w p name.pointers zs) same.1 (subst (λ k. Reads w p k xs) same.0 so.reads);
      few_pointers = name.few_pointers;
      short = name.short;
    }

-- A name that is read through no pointer is read from its offset on.
pub names_after : {m : List ℕ} {p : ℕ} {ls : List (List ℕ)} → Names 0 m p ls → ReadsFrom p m p ls
names_after x = record { pointers = x.pointers; reads = x.reads; after = touches_flat x.reads (omega (arith, x.few_pointers)) }

-- ---- what is read after labels and a pointer

pub after_from : {n : ℕ} {m : List ℕ} {p : ℕ} {ls : List (List ℕ)} (k : ℕ) → ReadsFrom n m p ls → k ≤ n → ReadsFrom k m p ls
after_from k x le = record { pointers = x.pointers; reads = x.reads; after = λ i h. omega (arith, x.after i h, le) }

pub label_after : {n : ℕ} {m : List ℕ} {p : ℕ} {l : List ℕ} {ls : List (List ℕ)} → n ≤ p → LabelAt m p l → ReadsFrom n m (p + 1 + length l) ls → ReadsFrom n m p (l ∷ ls)
label_after le x rest = record {
  pointers = rest.pointers;
  reads = label x rest.reads;
  after = λ i h. elim h [ inl here ↦ omega (arith, le, here.0) | inr there ↦ rest.after i there ];
}

pub labels_after : {n : ℕ} {m : List ℕ} {r : ℕ} {ls : List (List ℕ)} (a : List (List ℕ)) (p : ℕ) → n ≤ p → LabelRun m p a r → ReadsFrom n m r ls → ReadsFrom n m p (a ++ ls)
labels_after {n} {m} {r} {ls} [] p le f x = subst (λ q. ReadsFrom n m q ls) (sym f) x
labels_after (l ∷ a) p le f x = label_after le f.0 (labels_after a (p + 1 + length l) (omega (arith, le)) f.1 x)

pub reads_inside : {m : List ℕ} {p k : ℕ} {ls : List (List ℕ)} → Reads m p k ls → p < length m
reads_inside (root x) = x.inside
reads_inside (label x r) = omega (arith, x.inside)
reads_inside (pointer x lt r) = omega (arith, x.inside)

pub pointer_after : {n : ℕ} {m : List ℕ} {p q : ℕ} {ls : List (List ℕ)} → n ≤ p → PointerAt m p q → q < p → ReadsFrom n m q ls → ReadsFrom n m p ls
pointer_after le x lt rest = record {
  pointers = suc rest.pointers;
  reads = pointer x lt rest.reads;
  after = λ i h. elim h [ inl here ↦ omega (arith, le, here.0) | inr there ↦ rest.after i there ];
}
