-- The offsets at which the labels of a wire format begin.
use Rattle.std.proofs.Common.{◌≡◌, ℕ, suc, ◌+◌, ◌-◌, ◌≤◌, ◌<◌, List, [], ◌∷◌, ◌++◌, length, take, drop, refl, sym, ◌∙◌, ap, subst, arith, length-append, slice_index_or}
use Rattle.std.proofs.lemmas.List.{take_more}
use Rattle.domain_label.specs.Wire.{wire, labels_in, AreLabels, IsWire}
use Rattle.domain_label.proofs.WireLaws.{wire_append, labels_in_wire}
use Rattle.domain_flat.specs.Flat.{HasLast}
use Rattle.domain_flat.specs.Starts.{label_starts}
use Rattle.domain_flat.proofs.LabelBounds.{Meets, IsSeam, meets_take, meets_next, meets_length, read_at, last_of}

pub length-starts : (p : ℕ) (ls : List (List ℕ)) → length (label_starts p ls) ≡ length ls
length-starts p [] = refl
length-starts p (l ∷ ls) = ap suc (length-starts (p + 1 + length l) ls)

-- the last label begins after all others
pub starts_last : (p : ℕ) (xs : List (List ℕ)) (y : List ℕ) → label_starts p (xs ++ y ∷ []) ≡ label_starts p xs ++ (p + length (wire xs)) ∷ []
starts_last p [] y = let e : p ≡ p + 0 = omega arith in ap (λ q. q ∷ []) e
starts_last p (x ∷ xs) y =
    let e : p + 1 + length x + length (wire xs) ≡ p + length (wire (x ∷ xs)) = omega (arith, length-append x (wire xs)) in
    ap (λ ps. p ∷ ps) (starts_last (p + 1 + length x) xs y ∙ ap (λ q. label_starts (p + 1 + length x) xs ++ q ∷ []) e)

-- ---- one label more, from the front

more_of : (o : List ℕ) (i : ℕ) (xs ys : List (List ℕ)) → Meets o i xs ys → i < length o → (y : List ℕ) × (labels_in (take (i + 1 + slice_index_or o i 0) o) ≡ xs ++ y ∷ []) × (length (wire xs) ≡ i)
more_of o i xs [] m h = absurd (omega (arith, h, meets_length o i xs [] m))
more_of o i xs (y ∷ ys) m h =
    let n = meets_next o i xs y ys m in
    (y, rw (read_at o i xs y ys m) (ap labels_in (meets_take o _ _ _ n) ∙ labels_in_wire (xs ++ y ∷ [])), m.at)

pub starts_more : (o : List ℕ) (i : ℕ) → IsSeam o i → i < length o → label_starts 0 (labels_in (take (i + 1 + slice_index_or o i 0) o)) ≡ label_starts 0 (labels_in (take i o)) ++ i ∷ []
starts_more o i s h =
    let m = more_of o i _ _ s h in
    let e : 0 + length (wire (labels_in (take i o))) ≡ i = omega (arith, m.2) in
    ap (λ ls. label_starts 0 ls) m.1 ∙ (starts_last 0 (labels_in (take i o)) m.0 ∙ ap (λ q. label_starts 0 (labels_in (take i o)) ++ q ∷ []) e)

-- ---- one label less, from the back

last_split : (ls : List (List ℕ)) → 0 < length ls → (xs : List (List ℕ)) × (y : List ℕ) × (ls ≡ xs ++ y ∷ [])
last_split [] some = absurd (omega (arith, some))
last_split (l ∷ []) some = ([], l, refl)
last_split (l ∷ k ∷ ls) some = let r = last_split (k ∷ ls) (omega arith) in (l ∷ r.0, r.1, ap (λ xs. l ∷ xs) r.2)

same_last : (xs ys : List ℕ) (x y : ℕ) → xs ++ x ∷ [] ≡ ys ++ y ∷ [] → (xs ≡ ys) × (x ≡ y)
same_last [] [] x y e = (refl, cc)
same_last [] (b ∷ ys) x y e = absurd (omega (arith, ap (λ zs. length zs) e, length-append ys (y ∷ [])))
same_last (a ∷ xs) [] x y e = absurd (omega (arith, ap (λ zs. length zs) e, length-append xs (x ∷ [])))
same_last (a ∷ xs) (b ∷ ys) x y e =
    let head : a ≡ b = cc in
    let tail : xs ++ x ∷ [] ≡ ys ++ y ∷ [] = cc in
    let r = same_last xs ys x y tail in
    (cc (head, r.0), r.1)

labels_parts : (xs ys : List (List ℕ)) → AreLabels (xs ++ ys) → AreLabels xs × AreLabels ys
labels_parts [] ys a = (tt, a)
labels_parts (x ∷ xs) ys a = let r = labels_parts xs ys a.1 in ((a.0, r.0), r.1)

-- the last label begins where the table says, and the table has the starts of the labels before it
pub record LastTold (o table : List ℕ) (n start : ℕ) : Type 0 where
  pub inside : start < length o
  pub last : HasLast o (take start o) (drop (start + 1) o)
  pub rest : take (n - 1) table ≡ label_starts 0 (labels_in (take start o))

last_from : (o table : List ℕ) (n i : ℕ) (xs : List (List ℕ)) (y : List ℕ) → IsWire o → labels_in o ≡ xs ++ y ∷ [] → length (wire xs) ≡ i → take (n - 1) table ≡ label_starts 0 xs → LastTold o table n i
last_from o table n i xs y w e at rest =
    let parts = labels_parts xs (y ∷ []) (subst AreLabels e w.1) in
    let m : Meets o i xs (y ∷ []) = record { at = at; whole = sym (wire_append xs (y ∷ [])) ∙ (ap wire (sym e) ∙ w.0); front = parts.0; back = parts.1 } in
    let size = meets_length o i xs (y ∷ []) m in
    let inside : i < length o = omega (arith, size) in
    record {
      inside = inside;
      last = last_of o i xs (y ∷ []) m inside (omega (arith, size, read_at o i xs y [] m, length-append y []));
      rest = rest ∙ ap (λ ls. label_starts 0 ls) (sym (ap labels_in (meets_take o i xs (y ∷ []) m) ∙ labels_in_wire xs));
    }

last_in : (o table : List ℕ) (n : ℕ) (xs : List (List ℕ)) (y : List ℕ) → IsWire o → labels_in o ≡ xs ++ y ∷ [] → take (n - 1) table ++ slice_index_or table (n - 1) 0 ∷ [] ≡ label_starts 0 (labels_in o) → LastTold o table n (slice_index_or table (n - 1) 0)
last_in o table n xs y w e here =
    let r = same_last (take (n - 1) table) (label_starts 0 xs) (slice_index_or table (n - 1) 0) (0 + length (wire xs)) (here ∙ (ap (λ ls. label_starts 0 ls) e ∙ starts_last 0 xs y)) in
    last_from o table n (slice_index_or table (n - 1) 0) xs y w e (omega (arith, r.1)) r.0

pub last_told : (o table : List ℕ) (n : ℕ) → IsWire o → 0 < n → n ≤ length table → take n table ≡ label_starts 0 (labels_in o) → LastTold o table n (slice_index_or table (n - 1) 0)
last_told o table n w some room told =
    let few : length (label_starts 0 (labels_in o)) ≡ length (labels_in o) = length-starts 0 (labels_in o) in
    let more : take (n - 1 + 1) table ≡ take (n - 1) table ++ slice_index_or table (n - 1) 0 ∷ [] = take_more table (n - 1) 0 (omega arith) in
    let k : n - 1 + 1 ≡ n = omega arith in
    let here : take (n - 1) table ++ slice_index_or table (n - 1) 0 ∷ [] ≡ label_starts 0 (labels_in o) = sym more ∙ (ap (λ j. take j table) k ∙ told) in
    let s = last_split (labels_in o) (omega (arith, few, ap (λ xs. length xs) here, length-append (take (n - 1) table) (slice_index_or table (n - 1) 0 ∷ []))) in
    last_in o table n s.0 s.1 w s.2 here

pub fewer : (before after : List (List ℕ)) (l : List ℕ) → before ≡ after ++ l ∷ [] → length after < length before
fewer before after l e = omega (arith, ap (λ ls. length ls) e, length-append after (l ∷ []))
