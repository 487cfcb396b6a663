-- What is read at an offset: one list, an absolute name, and no octet after the message changes it.
use Rattle.std.proofs.Common.{◌≡◌, ℕ, suc, ◌+◌, ◌≤◌, ◌<◌, List, [], ◌∷◌, ◌++◌, length, refl, sym, ap, subst, arith, ◌∙◌, slice_range, length-append}
use Rattle.std.proofs.lemmas.Grind.{common_steps}
use Rattle.domain_label.specs.Wire.{wire, IsAbsolute, IsAbsoluteName}
use Rattle.domain_reading.specs.Grammar.{OctetAt, LabelAt, PointerAt, Reads, root, label, pointer, Names}

-- two labels that stand at one offset are equal
pub label_once : {m : List ℕ} {p : ℕ} {a b : List ℕ} → LabelAt m p a → LabelAt m p b → a ≡ b
label_once {m} {p} {a} {b} x y =
    let n : length a ≡ length b = cc in
    sym x.octets ∙ ap (λ n. slice_range m (p + 1) (p + 1 + n)) n ∙ y.octets

-- two pointers that stand at one offset lead to one offset
pub pointer_once : {m : List ℕ} {p a b : ℕ} → PointerAt m p a → PointerAt m p b → a ≡ b
pointer_once x y = omega arith

-- an offset reads at most one list, through one number of pointers
pub reads_once : {m : List ℕ} {p j k : ℕ} {xs ys : List (List ℕ)} → Reads m p j xs → Reads m p k ys → (j ≡ k) × (xs ≡ ys)
reads_once (root x) (root y) = (refl, refl)
reads_once (root x) (label y s) = absurd (omega arith)
reads_once (root x) (pointer y lt s) = absurd (omega arith)
reads_once (label x r) (root y) = absurd (omega arith)
reads_once {m} {p} (label x r) (label {k = k} {rest = rest} y s) =
    let e = label_once x y in
    let same = reads_once r (subst (λ a. Reads m (p + 1 + length a) k rest) (sym e) s) in
    (same.0, cc (e, same.1))
reads_once (label x r) (pointer y lt s) = absurd (omega arith)
reads_once (pointer x lt r) (root y) = absurd (omega arith)
reads_once (pointer x lt r) (label y s) = absurd (omega arith)
reads_once {m} (pointer x lt r) (pointer {k = k} {ls = ls} y lu s) =
    let e = pointer_once x y in
    let same = reads_once r (subst (λ q. Reads m q k ls) (sym e) s) in
    (ap suc same.0, same.1)

-- ---- a message with more octets after it

pub octet_more : {m : List ℕ} {p o : ℕ} (u : List ℕ) → OctetAt m p o → OctetAt (m ++ u) p o
octet_more u x = record { inside = omega (arith, length-append {A = ℕ}); octet = grind (arith, common_steps) }

pub label_more : {m : List ℕ} {p : ℕ} {l : List ℕ} (u : List ℕ) → LabelAt m p l → LabelAt (m ++ u) p l
label_more u x = record {
  nonempty = x.nonempty;
  short = x.short;
  head = grind (arith, common_steps);
  inside = omega (arith, length-append {A = ℕ});
  octets = grind (arith, common_steps);
}

pub pointer_more : {m : List ℕ} {p q : ℕ} (u : List ℕ) → PointerAt m p q → PointerAt (m ++ u) p q
pointer_more u x = record {
  inside = omega (arith, length-append {A = ℕ});
  head = grind (arith, common_steps);
  target = grind (arith, common_steps);
}

-- what the beginning of a message reads, the whole message reads
pub reads_more : {m : List ℕ} {p k : ℕ} {ls : List (List ℕ)} (u : List ℕ) → Reads m p k ls → Reads (m ++ u) p k ls
reads_more u (root x) = root (octet_more u x)
reads_more u (label x r) = label (label_more u x) (reads_more u r)
reads_more u (pointer x lt r) = pointer (pointer_more u x) lt (reads_more u r)

-- ---- what is after the first head

-- what is read at r, of a name that is read as ls through n pointers
pub record RestAt (m : List ℕ) (r k n : ℕ) (fs ls : List (List ℕ)) : Type 0 where
  pub pointers : ℕ
  pub rest : List (List ℕ)
  pub reads : Reads m r pointers rest
  pub count : n ≡ k + pointers
  pub list : ls ≡ fs ++ rest

pub after_label : {m : List ℕ} {p j : ℕ} {l : List ℕ} {ls : List (List ℕ)} → LabelAt m p l → Reads m p j ls → RestAt m (p + 1 + length l) 0 j (l ∷ []) ls
after_label x (root y) = absurd (omega arith)
after_label {m} {p} {j} {l} x (label {rest = rest} y r) =
    let e = label_once y x in
    record { pointers = j; rest = rest; reads = subst (λ a. Reads m (p + 1 + length a) j rest) e r; count = omega arith; list = ap (λ a. a ∷ rest) e }
after_label x (pointer y lt r) = absurd (omega arith)

pub after_pointer : {m : List ℕ} {p q j : ℕ} {ls : List (List ℕ)} → PointerAt m p q → Reads m p j ls → (q < p) × RestAt m q 1 j [] ls
after_pointer x (root y) = absurd (omega arith)
after_pointer x (label y r) = absurd (omega arith)
after_pointer {m} {p} {q} x (pointer {q = q'} {k = k} {ls = ls} y lt r) =
    let e = pointer_once y x in
    (subst (λ a. a < p) e lt, record { pointers = k; rest = ls; reads = subst (λ a. Reads m a k ls) e r; count = omega arith; list = refl })

pub reads_some : {m : List ℕ} {p k : ℕ} {ls : List (List ℕ)} → Reads m p k ls → 1 ≤ length (wire ls)
reads_some (root x) = omega arith
reads_some (label {l = l} {rest = rest} x r) = omega (arith, length-append l (wire rest))
reads_some (pointer x lt r) = reads_some r

-- what is read is an absolute name
absolute_label : (l : List ℕ) (rest : List (List ℕ)) → 0 < length l → length l < 64 → IsAbsolute rest → IsAbsolute (l ∷ rest)
absolute_label [] rest some short a = absurd (omega arith)
absolute_label (c ∷ l) rest some short a = (omega arith, a)

pub reads_absolute : {m : List ℕ} {p k : ℕ} {ls : List (List ℕ)} → Reads m p k ls → IsAbsolute ls
reads_absolute (root x) = refl
reads_absolute (label {l = l} {rest = rest} x r) = absolute_label l rest x.nonempty x.short (reads_absolute r)
reads_absolute (pointer x lt r) = reads_absolute r

pub names_absolute : {n : ℕ} {m : List ℕ} {p : ℕ} {ls : List (List ℕ)} → Names n m p ls → IsAbsoluteName ls
names_absolute x = (reads_absolute x.reads, x.short)

-- more pointers may be allowed
pub names_within : {n : ℕ} {m : List ℕ} {p : ℕ} {ls : List (List ℕ)} (k : ℕ) → Names n m p ls → n ≤ k → Names k m p ls
names_within k x le = record { pointers = x.pointers; reads = x.reads; few_pointers = omega (arith, x.few_pointers); short = x.short }

pub names_more : {n : ℕ} {m : List ℕ} {p : ℕ} {ls : List (List ℕ)} (u : List ℕ) → Names n m p ls → Names n (m ++ u) p ls
names_more u x = record { pointers = x.pointers; reads = reads_more u x.reads; few_pointers = x.few_pointers; short = x.short }
