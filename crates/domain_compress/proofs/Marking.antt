-- What a few octets at an offset tell of the name there.
use Rattle.std.proofs.Common.{◌≡◌, ℕ, ◌+◌, ◌-◌, ◌*◌, ◌/◌, ◌%◌, ◌^◌, ◌<◌, ◌≤◌, inl, inr, List, [], ◌∷◌, ◌++◌, fold, length, refl, sym, ap, subst, ◌∙◌, arith, slice_index, take, drop, drop-drop, slice_range, slice_set, get_or-set_same, get_or-set_other}
use Rattle.std.proofs.Math.Seq.{take-append_seam}
use Rattle.std.proofs.lemmas.Grind.{common_steps}
use Rattle.std.proofs.lemmas.Bool.{cases_lt}
use Rattle.std.specs.Char.{to_ascii_lowercase}
use Rattle.domain_label.specs.Wire.{wire, labels_in, IsAbsolute, IsAbsoluteWire}
use Rattle.domain_label.specs.Lowercase.{lowercase}
use Rattle.domain_flat.proofs.LabelBounds.{Meets, meets_drop, read_at}
use Rattle.domain_reading.specs.Grammar.{OctetAt, LabelAt, Reads}
use Rattle.domain_reading.specs.Grammar.Reads.{root, label, pointer}
use Rattle.domain_reading.specs.Faults.{start}
use Rattle.domain_reading.specs.Heads.{BrokenAt}
use Rattle.domain_reading.specs.declared.fault.NameFault.{NameFault}
use Rattle.domain_reading.proofs.NameOrFault.{names_or_fault}
use Rattle.domain_reading.proofs.Reading.{reads_once}
use Rattle.domain_reading.proofs.WhileReading.{broken_fault}
use Rattle.domain_rdata.specs.ReadBack.{StandsAt}
use Rattle.domain_compress.specs.Ends.{first_label, hash_step, label_hash, first_hash, slot_of, IsMarked}
use Rattle.domain_compress.specs.Hashes.{hash_at, HasHash}
use Rattle.domain_compress.specs.Pointed.{nothing_after}
use Rattle.domain_compress.proofs.ComparedInMessage.{same_first, same_length}

low_kind : (c : ℕ) → to_ascii_lowercase c % 32 ≡ c % 32
low_kind c = grind (arith, common_steps)

-- Labels that are equal without case have one hash.
same_fold : (a b : List ℕ) (h : ℕ) → lowercase a ≡ lowercase b → fold hash_step h a ≡ fold hash_step h b
same_fold [] [] h e = refl
same_fold [] (y ∷ b) h e = absurd (omega (arith, ap length e))
same_fold (x ∷ a) [] h e = absurd (omega (arith, ap length e))
same_fold (x ∷ a) (y ∷ b) h e =
    let kind : x % 32 ≡ y % 32 = sym (low_kind x) ∙ (ap (λ o. slice_index o 0 % 32) e ∙ low_kind y) in
    ap (λ c. fold hash_step ((h * 8 % 2 ^ 64 + c) % 2 ^ 64) a) kind ∙ same_fold a b (hash_step h y) (ap (drop 1) e)

pub same_hash : (a b : List ℕ) → lowercase a ≡ lowercase b → label_hash a ≡ label_hash b
same_hash a b e =
    let sums : fold hash_step (length a) a ≡ fold hash_step (length b) b = ap (λ n. fold hash_step n a) (same_length a b e) ∙ same_fold a b (length b) e in
    ap (λ n. n * 11400714819323198485 % 2 ^ 64 / 2 ^ 48) sums

label_hash_at : (m l : List ℕ) (p : ℕ) → LabelAt m p l → hash_at m p ≡ label_hash l
label_hash_at m l p x = ap (λ n. label_hash (slice_range m (p + 1) (p + 1 + n))) x.head ∙ ap label_hash x.octets

-- A label stands at the offset itself, or a pointer.
pub record Glance (m : List ℕ) (p : ℕ) (l : List ℕ) : Type 0 where
  pub hash : slice_index m p < 64 → hash_at m p ≡ label_hash l

glance : {m : List ℕ} {p k : ℕ} {ls : List (List ℕ)} → Reads m p k ls → 0 < length (first_label ls) → Glance m p (first_label ls)
glance (root x) some = absurd (omega (arith, some))
glance {m} {p} (label {l = l} x r) some = record { hash = λ _. label_hash_at m l p x }
glance (pointer x lt r) some = record { hash = λ h. absurd (omega (arith, h, x.head)) }

seen : (m : List ℕ) (p : ℕ) (ls : List (List ℕ)) → 0 < length (first_label ls) → (s : StandsAt m p ls) → Glance m p (first_label s.0)
seen m p ls some s = glance s.1.reads (omega (arith, some, same_length _ _ (same_first s.0 ls s.2)))

pub seen_marked : (marks m : List ℕ) (p h : ℕ) (ls : List (List ℕ)) → slice_index m p < 64 → h ≡ hash_at m p → 0 < length (first_label ls) → IsMarked marks ls → StandsAt m p ls → slice_index marks (slot_of h) ≡ 1
seen_marked marks m p h ls lowercase e some marked s =
    let g = seen m p ls some s in
    ap (λ k. slice_index marks (slot_of k)) (e ∙ (g.hash lowercase ∙ same_hash _ _ (same_first s.0 ls s.2))) ∙ marked

-- Where nothing can be read no name stands.
pub broken_stands : (m : List ℕ) (p : ℕ) (ls : List (List ℕ)) (fault : NameFault) → BrokenAt m p fault → StandsAt m p ls → ⊥
broken_stands m p ls fault b s =
    names_or_fault s.1 (record { pointers = 0; passed = []; stopped = p; walk = start; at = broken_fault 255 m p 0 [] fault b })

-- Where a root is, no name of another label stands.
pub root_stands : (m : List ℕ) (p : ℕ) (ls : List (List ℕ)) → OctetAt m p 0 → 0 < length (first_label ls) → StandsAt m p ls → ⊥
root_stands m p ls x some s =
    let none : first_label s.0 ≡ [] = ap first_label (reads_once s.1.reads (root x)).1 in
    omega (arith, some, same_length _ _ (same_first s.0 ls s.2), ap length none)

-- A label of n octets is at the offset.
abbrev pub LabelOf : List ℕ → ℕ → ℕ → Type 0
LabelOf m p n = (l : List ℕ) × (length l ≡ n) × LabelAt m p l

first_octet : (m : List ℕ) (p n : ℕ) → LabelOf m p n → slice_index m p ≡ n
first_octet m p n x = x.2.head ∙ x.1

pub label_low : (m : List ℕ) (p n : ℕ) → LabelOf m p n → slice_index m p < 64
label_low m p n x = omega (arith, x.2.head, x.2.short)

pub label_inside : (m : List ℕ) (p n : ℕ) → LabelOf m p n → p + 1 + n ≤ length m
label_inside m p n x = omega (arith, x.1, x.2.inside)

pub label_here : (m : List ℕ) (p n h : ℕ) → LabelOf m p n → h ≡ label_hash (slice_range m (p + 1) (p + 1 + n)) → h ≡ hash_at m p
label_here m p n h x e = e ∙ ap (λ k. label_hash (slice_range m (p + 1) (p + 1 + k))) (sym (first_octet m p n x))

pub label_hashed : (m : List ℕ) (p n e h : ℕ) → LabelOf m p n → p + 1 + n ≤ e → e ≤ length m → h ≡ label_hash (slice_range m (p + 1) (p + 1 + n)) → HasHash m p e h
label_hashed m p n e h x ends inside same = (label_low m p n x, (omega (arith, ends, first_octet m p n x), inside), label_here m p n h x same)

-- An end with a marked label doesn't stand where the hash isn't marked.
pub not_hashed : (marks m : List ℕ) (p e h : ℕ) (ls : List (List ℕ)) → HasHash m p e h → (slice_index marks (slot_of h) ≡ 1 → ⊥) → 0 < length (first_label ls) → IsMarked marks ls → StandsAt m p ls → ⊥
not_hashed marks m p e h ls hashed none some marked s = none (seen_marked marks m p h ls hashed.0 hashed.2 some marked s)

-- A name stands at no offset whose hash is another than that of its first label.
pub other_hash : (m : List ℕ) (p e h : ℕ) (ls : List (List ℕ)) → HasHash m p e h → (h ≡ first_hash ls → ⊥) → 0 < length (first_label ls) → StandsAt m p ls → ⊥
other_hash m p e h ls hashed none some s = none (hashed.2 ∙ ((seen m p ls some s).hash hashed.0 ∙ same_hash _ _ (same_first s.0 ls s.2)))

name_label : (name : List ℕ) (at : ℕ) (before ls : List (List ℕ)) (y : List ℕ) → Meets name at before (y ∷ ls) → slice_range name (at + 1) (at + 1 + length y) ≡ y
name_label name at before ls y m =
    let size : at + 1 + length y - (at + 1) ≡ length y = omega arith in
    let tail : drop (at + 1) name ≡ y ++ wire ls = sym (drop-drop 1 at name) ∙ ap (drop 1) (meets_drop name at before (y ∷ ls) m) in
    ap (λ i. take i (drop (at + 1) name)) size ∙ (ap (take (length y)) tail ∙ take-append_seam y (wire ls))

pub label_kind : (name : List ℕ) (at : ℕ) (before after : List (List ℕ)) → Meets name at before after → IsAbsolute after → label_hash (slice_range name (at + 1) (at + 1 + slice_index name at)) ≡ first_hash after
label_kind name at before [] m a = absurd a
label_kind name at before (y ∷ ls) m a =
    ap (λ n. label_hash (slice_range name (at + 1) (at + 1 + n))) (read_at name at before y ls m) ∙ ap label_hash (name_label name at before ls y m)

pub marked_here : (marks : List ℕ) (k : ℕ) → k < length marks → slice_index (slice_set marks k 1) k ≡ 1
marked_here marks k inside = get_or-set_same marks k 1 0 inside

pub marked_still : (marks : List ℕ) (k j : ℕ) → k < length marks → slice_index marks j ≡ 1 → slice_index (slice_set marks k 1) j ≡ 1
marked_still marks k j inside e = elim (cases_lt j k) [
  | inl lt ↦ get_or-set_other marks k j 1 0 (λ h. absurd (omega (arith, lt, h))) ∙ e
  | inr le ↦ elim (cases_lt k j) [
    | inl more ↦ get_or-set_other marks k j 1 0 (λ h. absurd (omega (arith, more, h))) ∙ e
    | inr less ↦ (
        let same : k ≡ j = omega (arith, le, less) in
        subst (λ i. slice_index (slice_set marks k 1) i ≡ 1) same (marked_here marks k inside))
  ]
]

end_absolute : (xs ys : List (List ℕ)) → IsAbsolute (xs ++ ys) → 0 < length ys → IsAbsolute ys
end_absolute [] ys a some = a
end_absolute ([] ∷ xs) ys a some = absurd (nothing_after xs ys a some)
end_absolute ((c ∷ l) ∷ xs) ys a some = end_absolute xs ys a.1 some

some_label : (ys : List (List ℕ)) → IsAbsolute ys → 1 < length ys → 0 < length (first_label ys)
some_label [] a more = absurd a
some_label ([] ∷ ys) a more = absurd (omega (arith, more, ap length a))
some_label ((c ∷ l) ∷ ys) a more = omega arith

-- The first label of an end isn't the root.
pub end_some : (name : List ℕ) (xs ys : List (List ℕ)) → IsAbsoluteWire name → labels_in name ≡ xs ++ ys → 1 < length ys → 0 < length (first_label ys)
end_some name xs ys w e more = some_label ys (end_absolute xs ys (subst IsAbsolute e w.1.0) (omega (arith, more))) more
