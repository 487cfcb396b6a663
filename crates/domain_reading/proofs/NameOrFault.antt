-- Walks along a name: at each offset there is a name or a fault, never both, and the fault is one.
use Rattle.std.proofs.Common.{◌≡◌, ℕ, zero, suc, ◌+◌, ◌*◌, ◌-◌, ◌≤◌, ◌<◌, ◌⊎◌, inl, inr, List, [], ◌∷◌, ◌++◌, length, refl, sym, ap, subst, arith, ◌∙◌, slice_range, slice_index, zero-add, append_assoc, length-append}
use Rattle.std.proofs.lemmas.Grind.{common_steps}
use Rattle.std.proofs.lemmas.Bool.{cases_lt}
use Rattle.domain_label.specs.Wire.{wire, Root}
use Rattle.domain_reading.specs.Grammar.{OctetAt, LabelAt, PointerAt, Reads, root, label, pointer, Names}
use Rattle.domain_reading.specs.Faults.{Followed, start, past_label, past_pointer, NameFaultAt, StepFaultAt, EndsTooEarly}
use Rattle.domain_reading.specs.declared.fault.NameFault.{NameFault}
use Rattle.domain_reading.specs.declared.fault.NameFault.TheVariants.{ShortInput, BadLabelType, TooManyPointers, LongName}
use Rattle.domain_label.proofs.WireLaws.{length-wire_append}
use Rattle.domain_reading.proofs.Reading.{label_once, pointer_once, reads_some, RestAt, after_label, after_pointer}

-- a name read where a walk stands is read from the walk's start
pub walk_reads : {n : ℕ} {m : List ℕ} {p k r : ℕ} {fs : List (List ℕ)} {j : ℕ} {ls : List (List ℕ)} → Followed n m p k fs r → Reads m r j ls → Reads m p (k + j) (fs ++ ls)
walk_reads {j = j} start r = rw (zero-add j) r
walk_reads {m = m} {p} {j = j} {ls = ls} (past_label {k = k} {fs = fs} {l = l} w x few) r =
    subst (λ xs. Reads m p (k + j) xs) (sym (append_assoc fs (l ∷ []) ls)) (walk_reads w (label x r))
walk_reads {m = m} {p} {j = j} {ls = ls} (past_pointer {k = k} {fs = fs} w x lt few) r =
    let e : k + suc j ≡ suc k + j = omega arith in
    subst (λ i. Reads m p i (fs ++ ls)) e (walk_reads w (pointer x lt r))

-- a walk from p goes along what is read at p
pub walk_rest : {n : ℕ} {m : List ℕ} {p k r : ℕ} {fs : List (List ℕ)} {j : ℕ} {ls : List (List ℕ)} → Followed n m p k fs r → Reads m p j ls → RestAt m r k j fs ls
walk_rest {j = j} {ls = ls} start r = record { pointers = j; rest = ls; reads = r; count = omega arith; list = refl }
walk_rest (past_label {fs = fs} {l = l} w x few) r =
    let a = walk_rest w r in
    let b = after_label x a.reads in
    record { pointers = b.pointers; rest = b.rest; reads = b.reads; count = omega arith; list = a.list ∙ ap (λ ys. fs ++ ys) b.list ∙ sym (append_assoc fs (l ∷ []) b.rest) }
walk_rest (past_pointer {fs = fs} w x lt few) r =
    let a = walk_rest w r in
    let b = after_pointer x a.reads in
    record { pointers = b.1.pointers; rest = b.1.rest; reads = b.1.reads; count = omega arith; list = a.list ∙ ap (λ ys. fs ++ ys) b.1.list }

-- where a walk cannot go on, nothing short is read
fault_reads_not : {n : ℕ} {m : List ℕ} {r j : ℕ} {ls : List (List ℕ)} (k : ℕ) (fs : List (List ℕ)) (e : NameFault) → StepFaultAt n m k fs r e → Reads m r j ls → k + j ≤ n → length (wire fs) + length (wire ls) ≤ 255 → ⊥
fault_reads_not k fs ShortInput f (root x) few short = grind arith
fault_reads_not k fs ShortInput f (label x r) few short = grind arith
fault_reads_not k fs ShortInput f (pointer x lt r) few short = grind arith
fault_reads_not k fs BadLabelType f (root x) few short = omega arith
fault_reads_not k fs BadLabelType f (label x r) few short = omega arith
fault_reads_not k fs BadLabelType f (pointer x lt r) few short = omega arith
fault_reads_not k fs TooManyPointers f r few short =
    let b = after_pointer f.1 r in
    omega (arith, b.1.count, b.0)
fault_reads_not {ls = ls} k fs LongName f r few short =
    let b = after_label f.1 r in
    let len : length (wire ls) ≡ length (wire (f.0 ∷ b.rest)) = ap (λ xs. length (wire xs)) b.list in
    omega (arith, len, length-append f.0 (wire b.rest), reads_some b.reads)

-- a name and a fault exclude each other
pub names_or_fault : {n : ℕ} {m : List ℕ} {p : ℕ} {ls : List (List ℕ)} {e : NameFault} → Names n m p ls → NameFaultAt n m p e → ⊥
names_or_fault {ls = ls} {e} x f =
    let a = walk_rest f.walk x.reads in
    let w : length (wire ls) ≡ length (wire (f.passed ++ a.rest)) = ap (λ xs. length (wire xs)) a.list in
    fault_reads_not f.pointers f.passed e f.at a.reads (omega arith) (omega (arith, w, length-wire_append f.passed a.rest))

-- ---- one of the two always holds

-- what stands at an offset, with what follows from it
pub data HeadAt (m : List ℕ) (r : ℕ) : Type 0 where
  is_root : OctetAt m r 0 → HeadAt m r
  is_label : (l : List ℕ) → LabelAt m r l → HeadAt m r
  is_pointer : (q : ℕ) → PointerAt m r q → HeadAt m r
  is_cut : EndsTooEarly m r → HeadAt m r
  is_bad : r < length m → 64 ≤ slice_index m r → slice_index m r < 192 → HeadAt m r

pub slice_length : (m : List ℕ) (r n : ℕ) → r + 1 + n ≤ length m → length (slice_range m (r + 1) (r + 1 + n)) ≡ n
slice_length m r n inside = grind (arith, common_steps)

pub label_from_slice : (m : List ℕ) (r n : ℕ) → 0 < n → n < 64 → slice_index m r ≡ n → r + 1 + n ≤ length m → LabelAt m r (slice_range m (r + 1) (r + 1 + n))
label_from_slice m r n some short head inside =
    let e = slice_length m r n inside in
    record {
      nonempty = omega arith;
      short = omega arith;
      head = head ∙ sym e;
      inside = omega arith;
      octets = ap (λ k. slice_range m (r + 1) (r + 1 + k)) e;
    }

pub pointer_at : (m : List ℕ) (r : ℕ) → r + 1 < length m → 192 ≤ slice_index m r → PointerAt m r (256 * slice_index m r + slice_index m (r + 1) - 49152)
pointer_at m r inside head = record { inside = inside; head = head; target = omega arith }

pub head_at : (m : List ℕ) (r : ℕ) → HeadAt m r
head_at m r = elim (cases_lt r (length m)) [
  | inl inside ↦ elim (cases_lt (slice_index m r) 64) [
    | inl low ↦ elim (cases_lt 0 (slice_index m r)) [
      | inl some ↦ elim (cases_lt (length m) (r + 1 + slice_index m r)) [
        | inl cut ↦ is_cut (inr (inr (low, cut)))
        | inr whole ↦ is_label _ (label_from_slice m r (slice_index m r) some low refl whole)
      ]
      | inr none ↦ is_root (record { inside = inside; octet = omega arith })
    ]
    | inr high ↦ elim (cases_lt (slice_index m r) 192) [
      | inl bad ↦ is_bad inside high bad
      | inr top ↦ elim (cases_lt (r + 1) (length m)) [
        | inl both ↦ is_pointer _ (pointer_at m r both top)
        | inr cut ↦ is_cut (inr (inl (cut, top)))
      ]
    ]
  ]
  | inr past ↦ is_cut (inl past)
]

abbrev pub NameOrFault : ℕ → List ℕ → ℕ → Type 0
NameOrFault n m p = ((ls : List (List ℕ)) × Names n m p ls) ⊎ ((e : NameFault) × NameFaultAt n m p e)

pub walk_few : {n : ℕ} {m : List ℕ} {p k r : ℕ} {fs : List (List ℕ)} → Followed n m p k fs r → (k ≤ n) × (length (wire fs) ≤ 254) × (2 * length fs ≤ length (wire fs))
walk_few start = (omega arith, omega arith, omega arith)
walk_few (past_label {fs = fs} {l = l} w x few) =
    let a = walk_few w in
    let e : length (wire (fs ++ l ∷ [])) ≡ length (wire fs) + 1 + length l = omega (arith, length-wire_append fs (l ∷ []), length-append l []) in
    let k : length (fs ++ l ∷ []) ≡ length fs + 1 = omega (arith, length-append fs (l ∷ [])) in
    (a.0, omega (arith, e), omega (arith, e, k, x.nonempty, a.2))
walk_few (past_pointer w x lt few) =
    let a = walk_few w in
    (omega arith, a.1, a.2)

faults : {n : ℕ} {m : List ℕ} {p k r : ℕ} {fs : List (List ℕ)} (e : NameFault) → Followed n m p k fs r → StepFaultAt n m k fs r e → NameOrFault n m p
faults {k = k} {r = r} {fs = fs} e w f = inr (e, record { pointers = k; passed = fs; stopped = r; walk = w; at = f })

-- the fuel counts down with each head
decide_from : (fuel n : ℕ) {m : List ℕ} {p k r : ℕ} {fs : List (List ℕ)} → Followed n m p k fs r → n + 255 ≤ fuel + k + length (wire fs) → NameOrFault n m p
decide_from zero n w enough = absurd (omega (arith, walk_few w))
decide_from (suc fuel) n {m} {p} {k} {r} {fs} w enough = elim (head_at m r) [
  | is_root x ↦ let few = walk_few w in inl (
    fs ++ Root,
    record {
      pointers = k + 0;
      reads = walk_reads w (root x);
      few_pointers = omega arith;
      short = omega (arith, length-wire_append fs Root);
    },
  )
  | is_label l x ↦ elim (cases_lt 254 (length (wire fs) + 1 + length l)) [
    | inl long ↦ faults LongName w (l, x, long)
    | inr short ↦ decide_from fuel n (past_label w x short) (omega (arith, length-wire_append fs (l ∷ []), length-append l []))
  ]
  | is_pointer q x ↦ elim (cases_lt q r) [
    | inl back ↦ elim (cases_lt k n) [
      | inl few ↦ decide_from fuel n (past_pointer w x back few) (omega arith)
      | inr many ↦ faults TooManyPointers w (q, x, inr (omega (arith, walk_few w)))
    ]
    | inr on ↦ faults TooManyPointers w (q, x, inl on)
  ]
  | is_cut c ↦ faults ShortInput w c
  | is_bad i a b ↦ faults BadLabelType w (i, a, b)
]

-- at each offset a name can be read, or there is a fault
pub name_or_fault : (n : ℕ) (m : List ℕ) (p : ℕ) → NameOrFault n m p
name_or_fault n m p = decide_from (n + 255) n start (omega arith)

-- ---- the fault is one

-- a walk on from r, where k pointers and the labels fs were passed, to where it stops
data Onward (n : ℕ) (m : List ℕ) (i : ℕ) (gs : List (List ℕ)) (s : ℕ) : ℕ → List (List ℕ) → ℕ → Type 0 where
  stops : Onward n m i gs s i gs s
  on_label : {k r : ℕ} {fs : List (List ℕ)} {l : List ℕ} → LabelAt m r l → length (wire fs) + 1 + length l ≤ 254 → Onward n m i gs s k (fs ++ l ∷ []) (r + 1 + length l) → Onward n m i gs s k fs r
  on_pointer : {k r q : ℕ} {fs : List (List ℕ)} → PointerAt m r q → q < r → k < n → Onward n m i gs s (suc k) fs q → Onward n m i gs s k fs r

onward : {n : ℕ} {m : List ℕ} {p k r i s : ℕ} {fs gs : List (List ℕ)} → Followed n m p k fs r → Onward n m i gs s k fs r → Onward n m i gs s 0 [] p
onward start o = o
onward (past_label w x few) o = onward w (on_label x few o)
onward (past_pointer w x lt few) o = onward w (on_pointer x lt few o)

-- two faults at one offset are one
fault_once : (n : ℕ) (m : List ℕ) (k r : ℕ) (fs : List (List ℕ)) (d e : NameFault) → StepFaultAt n m k fs r d → StepFaultAt n m k fs r e → d ≡ e
fault_once n m k r fs ShortInput ShortInput f g = refl
fault_once n m k r fs ShortInput BadLabelType f g = absurd (grind (arith, g.0, g.1, g.2))
fault_once n m k r fs ShortInput TooManyPointers f g = absurd (grind (arith, g.1.inside, g.1.head))
fault_once n m k r fs ShortInput LongName f g = absurd (grind (arith, g.1.inside, g.1.head, g.1.short))
fault_once n m k r fs BadLabelType ShortInput f g = absurd (grind (arith, f.0, f.1, f.2))
fault_once n m k r fs BadLabelType BadLabelType f g = refl
fault_once n m k r fs BadLabelType TooManyPointers f g = absurd (omega (arith, f.2, g.1.head))
fault_once n m k r fs BadLabelType LongName f g = absurd (omega (arith, f.1, g.1.head, g.1.short))
fault_once n m k r fs TooManyPointers ShortInput f g = absurd (grind (arith, f.1.inside, f.1.head))
fault_once n m k r fs TooManyPointers BadLabelType f g = absurd (omega (arith, g.2, f.1.head))
fault_once n m k r fs TooManyPointers TooManyPointers f g = refl
fault_once n m k r fs TooManyPointers LongName f g = absurd (omega (arith, f.1.head, g.1.head, g.1.short))
fault_once n m k r fs LongName ShortInput f g = absurd (grind (arith, f.1.inside, f.1.head, f.1.short))
fault_once n m k r fs LongName BadLabelType f g = absurd (omega (arith, g.1, f.1.head, f.1.short))
fault_once n m k r fs LongName TooManyPointers f g = absurd (omega (arith, g.1.head, f.1.head, f.1.short))
fault_once n m k r fs LongName LongName f g = refl

-- a walk goes on where there is no fault
fault_not_label : (n : ℕ) {m : List ℕ} (k : ℕ) {r : ℕ} {l : List ℕ} (fs : List (List ℕ)) (e : NameFault) → StepFaultAt n m k fs r e → LabelAt m r l → length (wire fs) + 1 + length l ≤ 254 → ⊥
fault_not_label n k fs ShortInput f x few = grind (arith, x.head, x.inside, x.short)
fault_not_label n k fs BadLabelType f x few = omega (arith, f.1, x.head, x.short)
fault_not_label n k fs TooManyPointers f x few = omega (arith, f.1.head, x.head, x.short)
fault_not_label n k fs LongName f x few = omega (arith, f.2, ap (λ l. length l) (label_once f.1 x))

fault_not_pointer : {n : ℕ} {m : List ℕ} {k r q : ℕ} (fs : List (List ℕ)) (e : NameFault) → StepFaultAt n m k fs r e → PointerAt m r q → q < r → k < n → ⊥
fault_not_pointer fs ShortInput f x back few = grind (arith, x.head, x.inside)
fault_not_pointer fs BadLabelType f x back few = omega (arith, f.2, x.head)
fault_not_pointer {r = r} {q} fs TooManyPointers f x back few = elim f.2 [ inl on ↦ omega (arith, pointer_once f.1 x) | inr many ↦ omega arith ]
fault_not_pointer fs LongName f x back few = omega (arith, f.1.head, f.1.short, x.head)

abbrev SameEnd : ℕ → ℕ → List (List ℕ) → List (List ℕ) → NameFault → NameFault → Type 0
SameEnd i j fs gs d e = (d ≡ e) × (i ≡ j) × (fs ≡ gs)

onward_once : {n : ℕ} {m : List ℕ} {i j s t : ℕ} {gs hs : List (List ℕ)} (d e : NameFault) {k r : ℕ} {fs : List (List ℕ)} → Onward n m i gs s k fs r → Onward n m j hs t k fs r → StepFaultAt n m i gs s d → StepFaultAt n m j hs t e → SameEnd i j gs hs d e
onward_once {n} {m} {i} {gs = gs} d e {r = r} stops stops f g = (fault_once n m i r gs d e f g, refl, refl)
onward_once {n} {i = i} {gs = gs} d e stops (on_label x few o) f g = absurd (fault_not_label n i gs d f x few)
onward_once {gs = gs} d e stops (on_pointer x lt few o) f g = absurd (fault_not_pointer gs d f x lt few)
onward_once {n} {j = j} {hs = hs} d e (on_label x few o) stops f g = absurd (fault_not_label n j hs e g x few)
onward_once {n} {m} {i} {j} {s} {t} {gs} {hs} d e {k} {r} {fs} (on_label x few o) (on_label y more u) f g =
    onward_once d e o (subst (λ l. Onward n m j hs t k (fs ++ l ∷ []) (r + 1 + length l)) (label_once y x) u) f g
onward_once d e (on_label x few o) (on_pointer y lt more u) f g = absurd (omega (arith, x.head, x.short, y.head))
onward_once {hs = hs} d e (on_pointer x lt few o) stops f g = absurd (fault_not_pointer hs e g x lt few)
onward_once d e (on_pointer x lt few o) (on_label y more u) f g = absurd (omega (arith, y.head, y.short, x.head))
onward_once {n} {m} {i} {j} {s} {t} {gs} {hs} d e {k} {r} {fs} (on_pointer x lt few o) (on_pointer y lu more u) f g =
    onward_once d e o (subst (λ q. Onward n m j hs t (suc k) fs q) (pointer_once y x) u) f g

-- an offset has at most one fault, and one walk leads to it
pub one_fault : {n : ℕ} {m : List ℕ} {p : ℕ} {d e : NameFault} (f : NameFaultAt n m p d) (g : NameFaultAt n m p e) → (d ≡ e) × (f.pointers ≡ g.pointers) × (f.passed ≡ g.passed)
one_fault {d = d} {e} f g = onward_once d e (onward f.walk stops) (onward g.walk stops) f.at g.at
