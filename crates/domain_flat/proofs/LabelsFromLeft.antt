-- Going over flat labels from the left.
use Rattle.std.proofs.Common.{◌≡◌, ℕ, suc, ◌⊎◌, ◌-◌, ◌+◌, ◌≤◌, ◌<◌, List, [], ◌∷◌, ◌++◌, length, take, drop, slice_range, refl, sym, ◌∙◌, ap, subst, arith, ⊎_elim, append_assoc, length-append, length-drop, append-nil}
use Rattle.std.proofs.Math.Seq.{take-append_seam}
use Rattle.std.proofs.lemmas.List.{nil_from_length}
use Rattle.domain_label.specs.Wire.{wire, Root, IsRelative, IsAbsolute, IsAbsoluteName, IsAbsoluteWire, IsRelativeWire}
use Rattle.domain_label.specs.Splitting.{BeginsWithLabel, SplitFault}
use Rattle.domain_label.specs.declared.split_error.SplitLabelError.{SplitLabelError}
use Rattle.domain_label.proofs.SplitLaws.{same_front, split_not_label}
use Rattle.domain_label.proofs.WireLaws.{wire_append, length-wire_append, one_relative, wire_absolute, wire_relative, relative_then_relative, relative_then_absolute, absolute_labels, relative_labels}
use Rattle.domain_flat.specs.Flat.{LabelsBefore, NameAt}

pub passed_none : (o : List ℕ) → LabelsBefore o [] o
passed_none o = record { labels = tt; parts = refl }

-- one more label is passed
pub passed_more : (o : List ℕ) (fs : List (List ℕ)) (rest l after : List ℕ) → LabelsBefore o fs rest → BeginsWithLabel rest l after → (l ≡ [] → ⊥) → LabelsBefore o (fs ++ l ∷ []) after
passed_more o fs rest l after p b some = record {
  labels = relative_then_relative fs (l ∷ []) p.labels (one_relative l b.0 some);
  parts = p.parts ∙ (ap (λ r. wire fs ++ r) b.1 ∙ (ap (λ r. wire fs ++ length l ∷ (r ++ after)) (sym (append-nil l)) ∙ (sym (append_assoc (wire fs) (wire (l ∷ [])) after) ∙ ap (λ r. r ++ after) (sym (wire_append fs (l ∷ []))))));
}

-- a root ends an absolute name
pub passed_root : (o : List ℕ) (fs : List (List ℕ)) (more : List ℕ) → LabelsBefore o fs (0 ∷ more) → o ≡ wire (fs ++ Root) ++ more
passed_root o fs more p = p.parts ∙ (sym (append_assoc (wire fs) (0 ∷ []) more) ∙ ap (λ r. r ++ more) (sym (wire_append fs Root)))

pub absolute_of : (fs : List (List ℕ)) → IsRelative fs → length (wire fs) ≤ 254 → IsAbsoluteName (fs ++ Root)
absolute_of fs r few = (relative_then_absolute fs Root r refl, omega (arith, few, length-wire_append fs Root))

pub passed_all_absolute : (o : List ℕ) (fs : List (List ℕ)) → LabelsBefore o fs (0 ∷ []) → length o ≤ 255 → IsAbsoluteWire o
passed_all_absolute o fs p few =
    let e : o ≡ wire (fs ++ Root) = passed_root o fs [] p ∙ append-nil (wire (fs ++ Root)) in
    let n : length (wire fs) ≤ 254 = omega (arith, few, ap length p.parts, length-append (wire fs) (0 ∷ [])) in
    subst IsAbsoluteWire (sym e) (wire_absolute (fs ++ Root) (absolute_of fs p.labels n))

pub passed_all_relative : (o : List ℕ) (fs : List (List ℕ)) → LabelsBefore o fs [] → length o ≤ 254 → IsRelativeWire o
passed_all_relative o fs p few =
    let e : o ≡ wire fs = p.parts ∙ append-nil (wire fs) in
    subst IsRelativeWire (sym e) (wire_relative fs (p.labels, omega (arith, few, ap length e)))

-- ---- what is passed of a list of labels

left_of : (fs ls : List (List ℕ)) (rest tail : List ℕ) → IsRelative fs → IsAbsolute ls → wire fs ++ rest ≡ wire ls ++ tail → (more : List (List ℕ)) × (ls ≡ fs ++ more) × IsAbsolute more × (rest ≡ wire more ++ tail)
left_of [] ls rest tail f a e = (ls, refl, a, e)
left_of ([] ∷ fs) ls rest tail f a e = absurd f
left_of ((c ∷ l) ∷ fs) [] rest tail f a e = absurd a
left_of ((c ∷ l) ∷ fs) ([] ∷ ls) rest tail f a e = absurd (let z : suc (length l) ≡ 0 = cc in omega (arith, z))
left_of ((c ∷ l) ∷ fs) ((d ∷ k) ∷ ls) rest tail f a e =
    let n : length (c ∷ l) ≡ length (d ∷ k) = cc in
    let t : ((c ∷ l) ++ wire fs) ++ rest ≡ ((d ∷ k) ++ wire ls) ++ tail = cc in
    let both = same_front (c ∷ l) (d ∷ k) (wire fs ++ rest) (wire ls ++ tail) n (sym (append_assoc (c ∷ l) (wire fs) rest) ∙ (t ∙ append_assoc (d ∷ k) (wire ls) tail)) in
    let r = left_of fs ls rest tail f.1 a.1 both.1 in
    (r.0, ap (λ x. x ∷ ls) (sym both.0) ∙ ap (λ x. (c ∷ l) ∷ x) r.1, r.2, r.3)

-- the octets of an absolute list and of what follows it are passed up to a part of the list
pub passed_of : (o : List ℕ) (fs ls : List (List ℕ)) (rest tail : List ℕ) → LabelsBefore o fs rest → IsAbsolute ls → o ≡ wire ls ++ tail → (more : List (List ℕ)) × (ls ≡ fs ++ more) × IsAbsolute more × (rest ≡ wire more ++ tail)
passed_of o fs ls rest tail p a e = left_of fs ls rest tail p.labels a (sym p.parts ∙ e)

-- ---- where something is wrong, no list stands

pub split_not_absolute : (ls : List (List ℕ)) (o rest : List ℕ) (e : SplitLabelError) → IsAbsolute ls → o ≡ wire ls ++ rest → SplitFault o e → ⊥
split_not_absolute [] o rest e a eq f = a
split_not_absolute (l ∷ ls) o rest e a eq f = split_not_label l o (wire ls ++ rest) e (absolute_labels (l ∷ ls) a).0 (eq ∙ ap (λ r. length l ∷ r) (append_assoc l (wire ls) rest)) f

pub split_not_relative : (ls : List (List ℕ)) (o : List ℕ) (e : SplitLabelError) → IsRelative ls → o ≡ wire ls → (o ≡ [] → ⊥) → SplitFault o e → ⊥
split_not_relative [] o e a eq some f = some eq
split_not_relative (l ∷ ls) o e a eq some f = split_not_label l o (wire ls) e (relative_labels (l ∷ ls) a).0 eq f

pub fault_not_absolute : (o : List ℕ) (fs : List (List ℕ)) (rest : List ℕ) (e : SplitLabelError) (ls : List (List ℕ)) (tail : List ℕ) → LabelsBefore o fs rest → SplitFault rest e → IsAbsolute ls → o ≡ wire ls ++ tail → ⊥
fault_not_absolute o fs rest e ls tail p f a eq =
    let m = passed_of o fs ls rest tail p a eq in
    split_not_absolute m.0 rest tail e m.2 m.3 f

some_octets : (ls : List (List ℕ)) (tail : List ℕ) → IsAbsolute ls → 1 ≤ length (wire ls ++ tail)
some_octets [] tail a = absurd a
some_octets (l ∷ ls) tail a = omega arith

-- an absolute list does not end without its root
pub end_not_absolute : (o : List ℕ) (fs : List (List ℕ)) (rest : List ℕ) (ls : List (List ℕ)) (tail : List ℕ) → LabelsBefore o fs rest → length rest ≡ 0 → IsAbsolute ls → o ≡ wire ls ++ tail → ⊥
end_not_absolute o fs rest ls tail p n a eq =
    let m = passed_of o fs ls rest tail p a eq in
    omega (arith, n, ap length m.3, some_octets m.0 tail m.2)

root_next : (ls : List (List ℕ)) (more tail : List ℕ) → IsAbsolute ls → 0 ∷ more ≡ wire ls ++ tail → (ls ≡ Root) × (more ≡ tail)
root_next [] more tail a e = absurd a
root_next ([] ∷ ls) more tail a e = (ap (λ r. [] ∷ r) a, let t : more ≡ wire ls ++ tail = cc in t ∙ ap (λ r. wire r ++ tail) a)
root_next ((c ∷ l) ∷ ls) more tail a e = absurd (let z : 0 ≡ suc (length l) = cc in omega (arith, z))

-- a root ends the list
pub root_ends : (o : List ℕ) (fs : List (List ℕ)) (more : List ℕ) (ls : List (List ℕ)) (tail : List ℕ) → LabelsBefore o fs (0 ∷ more) → IsAbsolute ls → o ≡ wire ls ++ tail → (ls ≡ fs ++ Root) × (more ≡ tail)
root_ends o fs more ls tail p a eq =
    let m = passed_of o fs ls (0 ∷ more) tail p a eq in
    let r = root_next m.0 more tail m.2 m.3 in
    (m.1 ∙ ap (λ x. fs ++ x) r.0, r.1)

-- ---- where the labels that aren't the root end

abbrev pub Stops : List ℕ → List ℕ → Type 0
Stops o rest = ((fs : List (List ℕ)) × LabelsBefore o fs rest) × ((rest ≡ []) ⊎ ((more : List ℕ) × (rest ≡ 0 ∷ more)))

-- they stop at a root
pub stops_root : (o rest : List ℕ) → Stops o rest → 1 ≤ length rest → (more : List ℕ) × (rest ≡ 0 ∷ more)
stops_root o rest s n = ⊎_elim (λ e. absurd (omega (arith, n, ap length e))) (λ r. r) s.1

pub stops_one : (o rest : List ℕ) → Stops o rest → length rest ≡ 1 → length o ≤ 255 → IsAbsoluteWire o
stops_one o rest s n few =
    let r = stops_root o rest s (omega (arith, n)) in
    let e : rest ≡ 0 ∷ [] = r.1 ∙ ap (λ x. 0 ∷ x) (nil_from_length r.0 (omega (arith, n, ap length r.1))) in
    passed_all_absolute o s.0.0 (subst (λ x. LabelsBefore o s.0.0 x) e s.0.1) few

at_least_two : (more : List ℕ) → 1 ≤ length more → (c : ℕ) × (rest : List ℕ) × (more ≡ c ∷ rest)
at_least_two [] n = absurd (omega (arith, n))
at_least_two (c ∷ rest) n = (c, rest, refl)

pub stops_more : (o rest : List ℕ) → Stops o rest → 2 ≤ length rest → (c : ℕ) × (more : List ℕ) × (rest ≡ 0 ∷ c ∷ more)
stops_more o rest s n =
    let r = stops_root o rest s (omega (arith, n)) in
    let t = at_least_two r.0 (omega (arith, n, ap length r.1)) in
    (t.0, t.1, r.1 ∙ ap (λ x. 0 ∷ x) t.2)

-- no absolute list is all of the octets, where octets follow the root
pub more_not_absolute : (o rest : List ℕ) (ls : List (List ℕ)) → Stops o rest → 2 ≤ length rest → IsAbsolute ls → o ≡ wire ls ++ [] → ⊥
more_not_absolute o rest ls s n a eq =
    let r = stops_root o rest s (omega (arith, n)) in
    let d = root_ends o s.0.0 r.0 ls [] (subst (λ x. LabelsBefore o s.0.0 x) r.1 s.0.1) a eq in
    omega (arith, n, ap length r.1, ap length d.1)

-- ---- relative lists

pub stops_none : (o rest : List ℕ) → Stops o rest → length rest ≡ 0 → length o ≤ 254 → IsRelativeWire o
stops_none o rest s n few = passed_all_relative o s.0.0 (subst (λ x. LabelsBefore o s.0.0 x) (nil_from_length rest n) s.0.1) few

left_relative : (fs ls : List (List ℕ)) (rest : List ℕ) → IsRelative fs → IsRelative ls → wire fs ++ rest ≡ wire ls → (more : List (List ℕ)) × (ls ≡ fs ++ more) × IsRelative more × (rest ≡ wire more)
left_relative [] ls rest f a e = (ls, refl, a, e)
left_relative ([] ∷ fs) ls rest f a e = absurd f
left_relative ((c ∷ l) ∷ fs) [] rest f a e = cc
left_relative ((c ∷ l) ∷ fs) ([] ∷ ls) rest f a e = absurd a
left_relative ((c ∷ l) ∷ fs) ((d ∷ k) ∷ ls) rest f a e =
    let n : length (c ∷ l) ≡ length (d ∷ k) = cc in
    let t : ((c ∷ l) ++ wire fs) ++ rest ≡ (d ∷ k) ++ wire ls = cc in
    let both = same_front (c ∷ l) (d ∷ k) (wire fs ++ rest) (wire ls) n (sym (append_assoc (c ∷ l) (wire fs) rest) ∙ t) in
    let r = left_relative fs ls rest f.1 a.1 both.1 in
    (r.0, ap (λ x. x ∷ ls) (sym both.0) ∙ ap (λ x. (c ∷ l) ∷ x) r.1, r.2, r.3)

pub fault_not_relative : (o : List ℕ) (fs : List (List ℕ)) (rest : List ℕ) (e : SplitLabelError) (ls : List (List ℕ)) → LabelsBefore o fs rest → SplitFault rest e → (rest ≡ [] → ⊥) → IsRelative ls → o ≡ wire ls → ⊥
fault_not_relative o fs rest e ls p f some a eq =
    let m = left_relative fs ls rest p.labels a (sym p.parts ∙ eq) in
    split_not_relative m.0 rest e m.2 m.3 some f

root_not_wire : (ls : List (List ℕ)) (more : List ℕ) → IsRelative ls → 0 ∷ more ≡ wire ls → ⊥
root_not_wire [] more a e = cc
root_not_wire ([] ∷ ls) more a e = a
root_not_wire ((c ∷ l) ∷ ls) more a e = let z : 0 ≡ suc (length l) = cc in omega (arith, z)

pub root_not_relative : (o rest : List ℕ) (ls : List (List ℕ)) → Stops o rest → 1 ≤ length rest → IsRelative ls → o ≡ wire ls → ⊥
root_not_relative o rest ls s n a eq =
    let r = stops_root o rest s n in
    let m = left_relative s.0.0 ls rest s.0.1.labels a (sym s.0.1.parts ∙ eq) in
    root_not_wire m.0 r.0 m.2 (sym r.1 ∙ m.3)

-- ---- the length of the name that stands at the beginning

pub passed_len : (o rest : List ℕ) (s : Stops o rest) → 1 ≤ length rest → length o - length rest + 1 ≡ length (wire (s.0.0 ++ Root))
passed_len o rest s n = omega (arith, n, ap length s.0.1.parts, length-append (wire s.0.0) rest, length-wire_append s.0.0 Root)

pub name_of : (o rest : List ℕ) → Stops o rest → 1 ≤ length rest → length o - length rest + 1 ≤ 255 → (ls : List (List ℕ)) × (tail : List ℕ) × IsAbsoluteName ls × (o ≡ wire ls ++ tail) × (length o - length rest + 1 ≡ length (wire ls))
name_of o rest s n few =
    let r = stops_root o rest s n in
    let p = subst (λ x. LabelsBefore o s.0.0 x) r.1 s.0.1 in
    let len = passed_len o rest s n in
    (s.0.0 ++ Root, r.0, (relative_then_absolute s.0.0 Root s.0.1.labels refl, omega (arith, few, len)), passed_root o s.0.0 r.0 p, len)

pub name_not_long : (o rest : List ℕ) (ls : List (List ℕ)) (tail : List ℕ) → Stops o rest → 1 ≤ length rest → 255 < length o - length rest + 1 → IsAbsoluteName ls → o ≡ wire ls ++ tail → ⊥
name_not_long o rest ls tail s n long a eq =
    let r = stops_root o rest s n in
    let d = root_ends o s.0.0 r.0 ls tail (subst (λ x. LabelsBefore o s.0.0 x) r.1 s.0.1) a.0 eq in
    omega (arith, long, passed_len o rest s n, a.1, ap (λ x. length (wire x)) d.0)

-- ---- one absolute list stands at the beginning of octets

pub absolute_once : (xs ys : List (List ℕ)) (a b : List ℕ) → IsAbsolute xs → IsAbsolute ys → wire xs ++ a ≡ wire ys ++ b → xs ≡ ys
absolute_once [] ys a b x y e = absurd x
absolute_once (k ∷ xs) [] a b x y e = absurd y
absolute_once ([] ∷ xs) ([] ∷ ys) a b x y e = ap (λ r. [] ∷ r) (x ∙ sym y)
absolute_once ([] ∷ xs) ((d ∷ l) ∷ ys) a b x y e = absurd (let z : 0 ≡ suc (length l) = cc in omega (arith, z))
absolute_once ((c ∷ k) ∷ xs) ([] ∷ ys) a b x y e = absurd (let z : suc (length k) ≡ 0 = cc in omega (arith, z))
absolute_once ((c ∷ k) ∷ xs) ((d ∷ l) ∷ ys) a b x y e =
    let n : length (c ∷ k) ≡ length (d ∷ l) = cc in
    let t : ((c ∷ k) ++ wire xs) ++ a ≡ ((d ∷ l) ++ wire ys) ++ b = cc in
    let both = same_front (c ∷ k) (d ∷ l) (wire xs ++ a) (wire ys ++ b) n (sym (append_assoc (c ∷ k) (wire xs) a) ∙ (t ∙ append_assoc (d ∷ l) (wire ys) b)) in
    ap (λ r. (c ∷ k) ∷ r) (absolute_once xs ys a b x.1 y.1 both.1) ∙ ap (λ l'. l' ∷ ys) both.0

-- the octets of the name that stands at an offset
pub name_slice : (m : List ℕ) (p n : ℕ) (ls : List (List ℕ)) (rest : List ℕ) → drop p m ≡ wire ls ++ rest → n ≡ length (wire ls) → slice_range m p (p + n) ≡ wire ls
name_slice m p n ls rest e len =
    let k : p + n - p ≡ length (wire ls) = omega (arith, len) in
    ap (λ r. take (p + n - p) r) e ∙ (ap (λ j. take j (wire ls ++ rest)) k ∙ take-append_seam (wire ls) rest)

-- a name stands inside the message
pub name_inside : (m : List ℕ) (p e : ℕ) (ls : List (List ℕ)) → NameAt m p ls e → p < length m
name_inside m p e ls at = omega (arith, some_octets ls at.after at.name.0, ap length at.octets, length-drop p m)
