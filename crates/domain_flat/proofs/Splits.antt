-- Where a list of labels is cut, its wire format is cut.
use Rattle.std.proofs.Common.{◌≡◌, ℕ, suc, ◌+◌, ◌-◌, ◌≤◌, ◌<◌, List, [], ◌∷◌, ◌++◌, length, take, drop, slice_range, slice_index_or, refl, sym, ◌∙◌, ap, subst, arith, length-append, append-nil, ◌⊎◌, ⊎_elim, IsTrue, nat_eq, eq-eqb}
use Rattle.std.proofs.lemmas.Bool.{eqb-true}
use Rattle.std.proofs.Math.Seq.{take-append_seam, drop-append_seam}
use Rattle.domain_label.specs.Wire.{wire, Root, labels_in, IsRelative, IsAbsolute, IsRelativeName, IsWire, IsAbsoluteWire, IsRelativeWire}
use Rattle.domain_label.proofs.WireLaws.{wire_append, length-wire_append, nil_from_wire, labels_in_wire, wire_absolute, wire_relative}
use Rattle.domain_flat.specs.Flat.{SplitsAt, IsLabelStart, IsLabelEnd, IsPartOf}
use Rattle.domain_flat.proofs.LabelBounds.{Meets, IsSeam, meets_labels, read_at}

-- ---- lists

pub cut_none : (ls : List (List ℕ)) → SplitsAt ls 0 [] ls
cut_none ls = record { parts = refl; offset = refl }

pub cut_all : (ls : List (List ℕ)) (n : ℕ) → length (wire ls) ≡ n → SplitsAt ls n ls []
cut_all ls n e = record { parts = sym (append-nil ls); offset = e }

-- of two cuts, the later one is after the earlier one
within : (xs ys xs' ys' : List (List ℕ)) → xs ++ ys ≡ xs' ++ ys' → length (wire xs) ≤ length (wire xs') → (zs : List (List ℕ)) × (xs' ≡ xs ++ zs) × (ys ≡ zs ++ ys')
within [] ys xs' ys' e n = (xs', refl, e)
within (x ∷ xs) ys [] ys' e n = absurd (omega (arith, n))
within (x ∷ xs) ys (x' ∷ xs') ys' e n =
    let head : x ≡ x' = cc in
    let tail : xs ++ ys ≡ xs' ++ ys' = cc in
    let r = within xs ys xs' ys' tail (omega (arith, n, ap length head, length-append x (wire xs), length-append x' (wire xs'))) in
    (r.0, ap (λ y. y ∷ xs') (sym head) ∙ ap (λ y. x ∷ y) r.1, r.2)

pub cut_within : (ls : List (List ℕ)) (p q : ℕ) (xs ys xs' ys' : List (List ℕ)) → SplitsAt ls p xs ys → SplitsAt ls q xs' ys' → p ≤ q → (zs : List (List ℕ)) × (xs' ≡ xs ++ zs) × (ys ≡ zs ++ ys')
cut_within ls p q xs ys xs' ys' a b n = within xs ys xs' ys' (sym a.parts ∙ b.parts) (omega (arith, a.offset, b.offset, n))

absolute_cut : (xs : List (List ℕ)) (y : List ℕ) (ys : List (List ℕ)) → IsAbsolute (xs ++ y ∷ ys) → IsRelative xs × IsAbsolute (y ∷ ys)
absolute_cut [] y ys a = (tt, a)
absolute_cut ([] ∷ []) y ys a = cc
absolute_cut ([] ∷ x ∷ xs) y ys a = cc
absolute_cut ((c ∷ l) ∷ xs) y ys a = let r = absolute_cut xs y ys a.1 in ((a.0, r.0), r.1)

relative_cut : (xs ys : List (List ℕ)) → IsRelative (xs ++ ys) → IsRelative xs × IsRelative ys
relative_cut [] ys a = (tt, a)
relative_cut ([] ∷ xs) ys a = absurd a
relative_cut ((c ∷ l) ∷ xs) ys a = let r = relative_cut xs ys a.1 in ((a.0, r.0), r.1)

-- ---- their wire formats

cut_wire : (o : List ℕ) (p : ℕ) (xs ys : List (List ℕ)) → wire (labels_in o) ≡ o → SplitsAt (labels_in o) p xs ys → wire xs ++ wire ys ≡ o
cut_wire o p xs ys w c = sym (wire_append xs ys) ∙ (ap wire (sym c.parts) ∙ w)

pub cut_take : (o : List ℕ) (p : ℕ) (xs ys : List (List ℕ)) → wire (labels_in o) ≡ o → SplitsAt (labels_in o) p xs ys → take p o ≡ wire xs
cut_take o p xs ys w c = rw (sym c.offset, sym (cut_wire o p xs ys w c)) (take-append_seam (wire xs) (wire ys))

pub cut_drop : (o : List ℕ) (p : ℕ) (xs ys : List (List ℕ)) → wire (labels_in o) ≡ o → SplitsAt (labels_in o) p xs ys → drop p o ≡ wire ys
cut_drop o p xs ys w c = rw (sym c.offset, sym (cut_wire o p xs ys w c)) (drop-append_seam (wire xs) (wire ys))

cut_len : (o : List ℕ) (p : ℕ) (xs ys : List (List ℕ)) → wire (labels_in o) ≡ o → SplitsAt (labels_in o) p xs ys → length o ≡ p + length (wire ys)
cut_len o p xs ys w c = omega (arith, ap length (cut_wire o p xs ys w c), c.offset, length-append (wire xs) (wire ys))

-- the parts of an absolute name, cut where a label begins
pub record AbsoluteParts (o : List ℕ) (p : ℕ) (before after : List ℕ) : Type 0 where
  pub front : IsRelativeWire before
  pub back : IsAbsoluteWire after
  pub parts : labels_in before ++ labels_in after ≡ labels_in o
  pub offset : length (wire (labels_in before)) ≡ p

pub absolute_parts : (o : List ℕ) (p : ℕ) → IsAbsoluteWire o → IsLabelStart (labels_in o) p → AbsoluteParts o p (take p o) (drop p o)
absolute_parts o p w s =
    let xs = s.0 in
    let ys = s.1 ∷ s.2 in
    let c = s.3 in
    let a = absolute_cut xs s.1 s.2 (subst IsAbsolute c.parts w.1.0) in
    let t = cut_take o p xs ys w.0 c in
    let d = cut_drop o p xs ys w.0 c in
    let n = cut_len o p xs ys w.0 c in
    let m : length (wire (labels_in o)) ≡ length o = ap length w.0 in
    record {
      front = rw t (wire_relative xs (a.0, omega (arith, n, m, w.1.1, c.offset)));
      back = rw d (wire_absolute ys (a.1, omega (arith, n, m, w.1.1)));
      parts = rw (t, d, labels_in_wire xs, labels_in_wire ys) (sym c.parts);
      offset = rw (t, labels_in_wire xs) c.offset;
    }

-- the parts of a relative name
pub record RelativeParts (o : List ℕ) (p : ℕ) (before after : List ℕ) : Type 0 where
  pub front : IsRelativeWire before
  pub back : IsRelativeWire after
  pub parts : labels_in before ++ labels_in after ≡ labels_in o
  pub offset : length (wire (labels_in before)) ≡ p

pub relative_parts : (o : List ℕ) (p : ℕ) → IsRelativeWire o → IsLabelEnd (labels_in o) p → RelativeParts o p (take p o) (drop p o)
relative_parts o p w s =
    let xs = s.0 in
    let ys = s.1 in
    let c = s.2 in
    let a = relative_cut xs ys (subst IsRelative c.parts w.1.0) in
    let t = cut_take o p xs ys w.0 c in
    let d = cut_drop o p xs ys w.0 c in
    let n = cut_len o p xs ys w.0 c in
    let m : length (wire (labels_in o)) ≡ length o = ap length w.0 in
    record {
      front = rw t (wire_relative xs (a.0, omega (arith, n, m, w.1.1, c.offset)));
      back = rw d (wire_relative ys (a.1, omega (arith, n, m, w.1.1)));
      parts = rw (t, d, labels_in_wire xs, labels_in_wire ys) (sym c.parts);
      offset = rw (t, labels_in_wire xs) c.offset;
    }

-- ---- a part between two cuts

pub record Part (o : List ℕ) (p q : ℕ) (part : List ℕ) : Type 0 where
  pub relative : IsRelativeWire part
  pub stands : IsPartOf (labels_in o) p q (labels_in part)

part_octets : (o : List ℕ) (p q : ℕ) (xs ys zs ys' : List (List ℕ)) → wire (labels_in o) ≡ o → SplitsAt (labels_in o) p xs ys → ys ≡ zs ++ ys' → q ≡ p + length (wire zs) → slice_range o p q ≡ wire zs
part_octets o p q xs ys zs ys' w c e n =
    let k : q - p ≡ length (wire zs) = omega (arith, n) in
    let d : drop p o ≡ wire zs ++ wire ys' = cut_drop o p xs ys w c ∙ (ap wire e ∙ wire_append zs ys') in
    ap (λ r. take (q - p) r) d ∙ (ap (λ j. take j (wire zs ++ wire ys')) k ∙ take-append_seam (wire zs) (wire ys'))

between : (o : List ℕ) (p q : ℕ) (xs ys xs' ys' : List (List ℕ)) → wire (labels_in o) ≡ o → length o ≤ 255 → SplitsAt (labels_in o) p xs ys → SplitsAt (labels_in o) q xs' ys' → IsRelativeName xs' → p ≤ q → Part o p q (slice_range o p q)
between o p q xs ys xs' ys' w few a b rel n =
    let z = cut_within (labels_in o) p q xs ys xs' ys' a b n in
    let len : length (wire xs') ≡ length (wire xs) + length (wire z.0) = ap (λ r. length (wire r)) z.1 ∙ length-wire_append xs z.0 in
    let k : q ≡ p + length (wire z.0) = omega (arith, len, a.offset, b.offset) in
    let e = part_octets o p q xs ys z.0 ys' w a z.2 k in
    let r = (relative_cut xs z.0 (subst IsRelative z.1 rel.0)).1 in
    rw e (record {
      relative = wire_relative z.0 (r, omega (arith, rel.1, len));
      stands = rw (labels_in_wire z.0) (xs, ys', record { parts = a.parts ∙ ap (λ r. xs ++ r) z.2; offset = a.offset }, omega (arith, k));
    })

pub absolute_part : (o : List ℕ) (p q : ℕ) → IsAbsoluteWire o → IsLabelStart (labels_in o) p → IsLabelStart (labels_in o) q → p ≤ q → Part o p q (slice_range o p q)
absolute_part o p q w s t n =
    let a = absolute_cut t.0 t.1 t.2 (subst IsAbsolute t.3.parts w.1.0) in
    let m : length (wire (labels_in o)) ≡ length o = ap length w.0 in
    let l = cut_len o q t.0 (t.1 ∷ t.2) w.0 t.3 in
    between o p q s.0 (s.1 ∷ s.2) t.0 (t.1 ∷ t.2) w.0 (omega (arith, m, w.1.1)) s.3 t.3 (a.0, omega (arith, l, m, w.1.1, t.3.offset)) n

pub relative_part : (o : List ℕ) (p q : ℕ) → IsRelativeWire o → IsLabelEnd (labels_in o) p → IsLabelEnd (labels_in o) q → p ≤ q → Part o p q (slice_range o p q)
relative_part o p q w s t n =
    let a = relative_cut t.0 t.1 (subst IsRelative t.2.parts w.1.0) in
    let m : length (wire (labels_in o)) ≡ length o = ap length w.0 in
    let l = cut_len o q t.0 t.1 w.0 t.2 in
    between o p q s.0 s.1 t.0 t.1 w.0 (omega (arith, m, w.1.1)) s.2 t.2 (a.0, omega (arith, l, m, w.1.1, t.2.offset)) n

-- ---- going from label to label

pub seam_cut : (o : List ℕ) (i : ℕ) → IsSeam o i → SplitsAt (labels_in o) i (labels_in (take i o)) (labels_in (drop i o))
seam_cut o i s = record { parts = meets_labels o i _ _ s; offset = s.at }

next_offset : (o : List ℕ) (i offset : ℕ) (xs ys zs ys' : List (List ℕ)) → Meets o i xs ys → ys ≡ zs ++ ys' → i + length (wire zs) ≡ offset → i < offset → i + 1 + slice_index_or o i 0 ≤ offset
next_offset o i offset xs ys [] ys' m e n h = absurd (omega (arith, n, h))
next_offset o i offset xs ys (z ∷ zs) ys' m e n h =
    let there : Meets o i xs (z ∷ (zs ++ ys')) = subst (λ r. Meets o i xs r) e m in
    omega (arith, read_at o i xs z (zs ++ ys') there, n, length-append z (wire zs))

-- from a label that begins before an offset where one begins or the list ends, one comes at most to it
pub step_stays : (o : List ℕ) (i offset : ℕ) → IsSeam o i → IsLabelEnd (labels_in o) offset → i < offset → i + 1 + slice_index_or o i 0 ≤ offset
step_stays o i offset s t h =
    let c = seam_cut o i s in
    let z = cut_within (labels_in o) i offset _ _ t.0 t.1 c t.2 (omega (arith, h)) in
    let len : length (wire t.0) ≡ length (wire (labels_in (take i o))) + length (wire z.0) = ap (λ r. length (wire r)) z.1 ∙ length-wire_append (labels_in (take i o)) z.0 in
    next_offset o i offset _ _ z.0 t.1 s z.2 (omega (arith, len, c.offset, t.2.offset)) h

pub end_inside : (o : List ℕ) (offset : ℕ) → IsWire o → IsLabelEnd (labels_in o) offset → offset ≤ length o
end_inside o offset w t = omega (arith, cut_len o offset t.0 t.1 w.0 t.2)

-- where the walk has come to the offset, or to the end, it tells
pub walk_tells : (o : List ℕ) (i offset : ℕ) → IsWire o → IsSeam o i → i ≤ length o → (IsLabelEnd (labels_in o) offset → i ≤ offset) → (offset ≤ i) ⊎ (length o ≤ i) → (IsTrue (nat_eq i offset) → IsLabelEnd (labels_in o) offset) × (IsLabelEnd (labels_in o) offset → IsTrue (nat_eq i offset))
walk_tells o i offset w s n before stop = (
  λ h. let e : i ≡ offset = eqb-true i offset h in let here : IsLabelEnd (labels_in o) i = (labels_in (take i o), labels_in (drop i o), seam_cut o i s) in subst (IsLabelEnd (labels_in o)) e here,
  λ t. eq-eqb i offset (⊎_elim (λ a. omega (arith, a, before t)) (λ b. omega (arith, b, before t, n, end_inside o offset w t)) stop),
)

-- ---- after the first label

pub relative_after : (o r l : List ℕ) (rest : List (List ℕ)) → IsRelativeWire o → labels_in o ≡ l ∷ rest → labels_in r ≡ rest → wire (labels_in r) ≡ r → IsRelativeWire r
relative_after o r l rest w first same whole =
    let e : labels_in o ≡ l ∷ labels_in r = first ∙ ap (λ x. l ∷ x) (sym same) in
    let a = relative_cut (l ∷ []) (labels_in r) (subst IsRelative e w.1.0) in
    let n : length (wire (labels_in o)) ≡ suc (length l + length (wire (labels_in r))) = ap (λ x. length (wire x)) e ∙ ap suc (length-append l (wire (labels_in r))) in
    (whole, (a.1, omega (arith, n, w.1.1)))

absolute_tail : (l : List ℕ) (ls : List (List ℕ)) → IsAbsolute (l ∷ ls) → (l ∷ ls ≡ Root → ⊥) → IsAbsolute ls
absolute_tail [] ls a more = absurd (more (ap (λ r. [] ∷ r) a))
absolute_tail (c ∷ l) ls a more = a.1

pub absolute_after : (o r l : List ℕ) (rest : List (List ℕ)) → IsAbsoluteWire o → (labels_in o ≡ Root → ⊥) → labels_in o ≡ l ∷ rest → labels_in r ≡ rest → wire (labels_in r) ≡ r → IsAbsoluteWire r
absolute_after o r l rest w more first same whole =
    let e : labels_in o ≡ l ∷ labels_in r = first ∙ ap (λ x. l ∷ x) (sym same) in
    let a = absolute_tail l (labels_in r) (subst IsAbsolute e w.1.0) (λ root. more (e ∙ root)) in
    let n : length (wire (labels_in o)) ≡ suc (length l + length (wire (labels_in r))) = ap (λ x. length (wire x)) e ∙ ap suc (length-append l (wire (labels_in r))) in
    (whole, (a, omega (arith, n, w.1.1)))

-- an absolute name's list ends in the root
pub root_last : (ls : List (List ℕ)) → IsAbsolute ls → (front : List (List ℕ)) × (ls ≡ front ++ [] ∷ []) × IsRelative front
root_last [] a = absurd a
root_last ([] ∷ ls) a = ([], ap (λ r. [] ∷ r) a, tt)
root_last ((c ∷ l) ∷ ls) a = let r = root_last ls a.1 in ((c ∷ l) ∷ r.0, ap (λ x. (c ∷ l) ∷ x) r.1, (a.0, r.2))

-- ---- where labels of an absolute name begin

pub start_end : (ls : List (List ℕ)) (p : ℕ) → IsLabelStart ls p → IsLabelEnd ls p
start_end ls p s = (s.0, s.1 ∷ s.2, s.3)

pub start_inside : (o : List ℕ) (p : ℕ) → IsWire o → IsLabelStart (labels_in o) p → p ≤ length o
start_inside o p w s = end_inside o p w (start_end (labels_in o) p s)

pub start_before_end : (o : List ℕ) (p : ℕ) → wire (labels_in o) ≡ o → IsLabelStart (labels_in o) p → p < length (wire (labels_in o))
start_before_end o p w s = omega (arith, ap length w, cut_len o p s.0 (s.1 ∷ s.2) w s.3)

-- where the list doesn't end, a label begins
start_of : (ls : List (List ℕ)) (p : ℕ) (xs ys : List (List ℕ)) → SplitsAt ls p xs ys → p < length (wire ls) → IsLabelStart ls p
start_of ls p xs [] c n = absurd (omega (arith, n, c.offset, ap (λ r. length (wire r)) (c.parts ∙ append-nil xs)))
start_of ls p xs (y ∷ ys) c n = (xs, y, ys, c)

pub end_start : (ls : List (List ℕ)) (p : ℕ) → p < length (wire ls) → IsLabelEnd ls p → IsLabelStart ls p
end_start ls p n e = start_of ls p e.0 e.1 e.2 n

-- the root begins one octet before the end
pub root_start : (ls : List (List ℕ)) (p : ℕ) → IsAbsolute ls → p + 1 ≡ length (wire ls) → IsLabelStart ls p
root_start ls p a n =
    let r = root_last ls a in
    (r.0, [], [], record { parts = r.1; offset = omega (arith, n, ap (λ x. length (wire x)) r.1, length-wire_append r.0 ([] ∷ [])) })

last_empty : (front : List (List ℕ)) (l : List ℕ) → IsAbsolute (front ++ l ∷ []) → l ≡ []
last_empty [] [] a = refl
last_empty [] (c ∷ l) a = absurd a.1
last_empty ([] ∷ []) l a = cc
last_empty ([] ∷ f ∷ front) l a = cc
last_empty ((c ∷ k) ∷ front) l a = last_empty front l a.1

-- a front that lacks one octet lacks the root alone
pub lacks_root : (ls front after : List (List ℕ)) → IsAbsolute ls → ls ≡ front ++ after → length (wire front) + 1 ≡ length (wire ls) → front ++ Root ≡ ls
lacks_root ls front after a e n =
    let r = root_last ls a in
    let len : length (wire ls) ≡ length (wire r.0) + 1 = ap (λ x. length (wire x)) r.1 ∙ length-wire_append r.0 Root in
    let z = within r.0 Root front after (sym r.1 ∙ e) (omega (arith, len, n)) in
    ap (λ x. x ++ Root) (z.1 ∙ (ap (λ k. r.0 ++ k) (nil_from_wire z.0 (omega (arith, len, n, ap (λ x. length (wire x)) z.1, length-wire_append r.0 z.0))) ∙ append-nil r.0)) ∙ sym r.1

-- a last label is the root
pub last_is_root : (ls front : List (List ℕ)) (l : List ℕ) → IsAbsolute ls → ls ≡ front ++ l ∷ [] → l ≡ []
last_is_root ls front l a e = last_empty front l (subst IsAbsolute e a)

-- an absolute list has an octet at least
pub root_long : (ls : List (List ℕ)) → IsAbsolute ls → 1 ≤ length (wire ls)
root_long [] a = absurd a
root_long (l ∷ ls) a = omega arith
