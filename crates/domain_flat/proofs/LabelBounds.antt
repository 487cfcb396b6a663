-- Where labels begin and end in a wire format.
use Rattle.std.proofs.Common.{◌≡◌, ℕ, ◌+◌, ◌-◌, ◌≤◌, ◌<◌, List, [], ◌∷◌, ◌++◌, length, take, drop, refl, sym, ◌∙◌, ap, subst, arith, append_assoc, length-append, append-nil, slice_index_or, add-zero, drop-drop, get_or-drop, suc}
use Rattle.std.proofs.Math.Seq.{take-append_seam, drop-append_seam}
use Rattle.domain_label.specs.Wire.{wire, cut, labels_in, AreLabels, IsWire}
use Rattle.domain_label.proofs.WireLaws.{wire_append, length-wire_append, labels_in_wire}
use Rattle.domain_flat.specs.Flat.{HasFirst, HasLast}

pub labels_append : (xs ys : List (List ℕ)) → AreLabels xs → AreLabels ys → AreLabels (xs ++ ys)
labels_append [] ys h k = k
labels_append (x ∷ xs) ys h k = (h.0, labels_append xs ys h.1 k)

pub IsWire_wire : (xs : List (List ℕ)) → AreLabels xs → IsWire (wire xs)
IsWire_wire xs h = (ap wire (labels_in_wire xs), subst AreLabels (sym (labels_in_wire xs)) h)

-- the octets o are the labels xs in i octets, and then the labels ys
pub record Meets (o : List ℕ) (i : ℕ) (xs ys : List (List ℕ)) : Type 0 where
  pub at : length (wire xs) ≡ i
  pub whole : wire xs ++ wire ys ≡ o
  pub front : AreLabels xs
  pub back : AreLabels ys

pub meets_start : (o : List ℕ) → IsWire o → Meets o 0 [] (labels_in o)
meets_start o w = record { at = refl; whole = w.0; front = tt; back = w.1 }

pub meets_take : (o : List ℕ) (i : ℕ) (xs ys : List (List ℕ)) → Meets o i xs ys → take i o ≡ wire xs
meets_take o i xs ys m = rw (sym m.at, sym m.whole) (take-append_seam (wire xs) (wire ys))

pub meets_drop : (o : List ℕ) (i : ℕ) (xs ys : List (List ℕ)) → Meets o i xs ys → drop i o ≡ wire ys
meets_drop o i xs ys m = rw (sym m.at, sym m.whole) (drop-append_seam (wire xs) (wire ys))

pub meets_labels : (o : List ℕ) (i : ℕ) (xs ys : List (List ℕ)) → Meets o i xs ys → labels_in o ≡ xs ++ ys
meets_labels o i xs ys m = ap labels_in (sym m.whole ∙ sym (wire_append xs ys)) ∙ labels_in_wire (xs ++ ys)

pub meets_next : (o : List ℕ) (i : ℕ) (xs : List (List ℕ)) (y : List ℕ) (ys : List (List ℕ)) → Meets o i xs (y ∷ ys) → Meets o (i + 1 + length y) (xs ++ y ∷ []) ys
meets_next o i xs y ys m = record {
  at = omega (arith, m.at, length-wire_append xs (y ∷ []), length-append y (wire []));
  whole = ap (λ r. r ++ wire ys) (wire_append xs (y ∷ [])) ∙ (append_assoc (wire xs) (wire (y ∷ [])) (wire ys) ∙ (ap (λ r. wire xs ++ length y ∷ (r ++ wire ys)) (append-nil y) ∙ m.whole));
  front = labels_append xs (y ∷ []) m.front (m.back.0, tt);
  back = m.back.1;
}

abbrev pub IsSeam : List ℕ → ℕ → Type 0
IsSeam o i = Meets o i (labels_in (take i o)) (labels_in (drop i o))

pub seam_of : (o : List ℕ) (i : ℕ) (xs ys : List (List ℕ)) → Meets o i xs ys → IsSeam o i
seam_of o i xs ys m =
    let a : labels_in (take i o) ≡ xs = ap labels_in (meets_take o i xs ys m) ∙ labels_in_wire xs in
    let b : labels_in (drop i o) ≡ ys = ap labels_in (meets_drop o i xs ys m) ∙ labels_in_wire ys in
    rw (a, b) m

pub seam_start : (o : List ℕ) → IsWire o → IsSeam o 0
seam_start o w = seam_of o 0 [] (labels_in o) (meets_start o w)

pub read_at : (o : List ℕ) (i : ℕ) (xs : List (List ℕ)) (y : List ℕ) (ys : List (List ℕ)) → Meets o i xs (y ∷ ys) → slice_index_or o i 0 ≡ length y
read_at o i xs y ys m = ap (λ k. slice_index_or o k 0) (sym (add-zero i)) ∙ (sym (get_or-drop i o 0 0) ∙ ap (λ r. slice_index_or r 0 0) (meets_drop o i xs (y ∷ ys) m))

pub meets_length : (o : List ℕ) (i : ℕ) (xs ys : List (List ℕ)) → Meets o i xs ys → length o ≡ i + length (wire ys)
meets_length o i xs ys m = omega (arith, m.at, ap length m.whole, length-append (wire xs) (wire ys))

next_of : (o : List ℕ) (i : ℕ) (xs ys : List (List ℕ)) → Meets o i xs ys → i < length o → (i + 1 + slice_index_or o i 0 ≤ length o) × IsSeam o (i + 1 + slice_index_or o i 0)
next_of o i xs [] m h = absurd (omega (arith, h, meets_length o i xs [] m))
next_of o i xs (y ∷ ys) m h =
    let e = read_at o i xs y ys m in
    let n = meets_next o i xs y ys m in
    (omega (arith, e, meets_length o _ _ _ n), rw e (seam_of o _ _ _ n))

pub seam_next : (o : List ℕ) (i : ℕ) → IsSeam o i → i < length o → (i + 1 + slice_index_or o i 0 ≤ length o) × IsSeam o (i + 1 + slice_index_or o i 0)
seam_next o i s h = next_of o i _ _ s h

no_more : (ys : List (List ℕ)) → length (wire ys) ≡ 0 → ys ≡ []
no_more [] h = refl
no_more (y ∷ ys) h = absurd (omega (arith, h))

pub last_of : (o : List ℕ) (i : ℕ) (xs ys : List (List ℕ)) → Meets o i xs ys → i < length o → length o ≤ i + 1 + slice_index_or o i 0 → HasLast o (take i o) (drop (i + 1) o)
last_of o i xs [] m h k = absurd (omega (arith, h, meets_length o i xs [] m))
last_of o i xs (y ∷ ys) m h k =
    let none : ys ≡ [] = no_more ys (omega (arith, read_at o i xs y ys m, meets_length o _ _ _ (meets_next o i xs y ys m), k)) in
    let tail : drop (i + 1) o ≡ y = sym (drop-drop 1 i o) ∙ (ap (drop 1) (meets_drop o i xs (y ∷ ys) m) ∙ (ap (λ r. y ++ wire r) none ∙ append-nil y)) in
    let front : take i o ≡ wire xs = meets_take o i xs (y ∷ ys) m in
    record {
      label = rw tail m.back.0;
      rest = rw front (IsWire_wire xs m.front);
      parts = meets_labels o i xs (y ∷ ys) m ∙ (ap (λ r. xs ++ y ∷ r) none ∙ rw (front, tail) (ap (λ r. r ++ y ∷ []) (sym (labels_in_wire xs))));
    }

pub last_at : (o : List ℕ) (i : ℕ) → IsSeam o i → i < length o → length o ≤ i + 1 + slice_index_or o i 0 → HasLast o (take i o) (drop (i + 1) o)
last_at o i s h k = last_of o i _ _ s h k

-- what a first length octet leaves
rest_is : (n : ℕ) (o : List ℕ) → IsWire (n ∷ o) → drop n o ≡ wire (cut (length o) (drop n o))
rest_is n o w =
    let m = meets_start (n ∷ o) w in
    let e : 0 + 1 + length (take n o) ≡ suc n = omega (arith, read_at (n ∷ o) 0 [] (take n o) (cut (length o) (drop n o)) m) in
    ap (λ k. drop k (n ∷ o)) (sym e) ∙ meets_drop (n ∷ o) _ _ _ (meets_next (n ∷ o) 0 [] (take n o) (cut (length o) (drop n o)) m)

pub first_fits : (o : List ℕ) → IsWire o → 1 ≤ length o → slice_index_or o 0 0 ≤ length o - 1
first_fits o w h = omega (arith, (seam_next o 0 (seam_start o w) (omega (arith, h))).0)

pub first_at : (o : List ℕ) → IsWire o → 1 ≤ length o → HasFirst o (take (slice_index_or o 0 0) (drop 1 o)) (drop (slice_index_or o 0 0) (drop 1 o))
first_at [] w h = absurd (omega (arith, h))
first_at (n ∷ o) w h =
    let ls = cut (length o) (drop n o) in
    let e : labels_in (drop n o) ≡ ls = ap labels_in (rest_is n o w) ∙ labels_in_wire ls in
    record { label = w.1.0; rest = rw (rest_is n o w) (IsWire_wire ls w.1.1); parts = ap (λ r. take n o ∷ r) (sym e) }
