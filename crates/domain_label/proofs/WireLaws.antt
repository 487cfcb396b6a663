-- Laws of wire formats and of the lists that they spell.
use Rattle.std.specs.Prelude.{◌≡◌, ℕ, zero, suc, ◌+◌, ◌≤◌, ◌<◌, List, [], ◌∷◌, ◌++◌, length, refl}
use Rattle.std.specs.Coded.{×_prop, Unit-prop, le_prop, Coded-set, coded_list, coded_ℕ}
use Rattle.std.proofs.Common.{arith, ap, subst, sym, ◌∙◌, append_assoc, length-append}
use Rattle.std.proofs.Math.Seq.{take-append_seam, drop-append_seam}
use Rattle.std.proofs.Math.Nat.{le_refl}
use Rattle.domain_label.specs.Wire.{wire, cut, labels_in, AreLabels, IsLabel, IsAbsolute, IsRelative, IsAbsoluteName, IsRelativeName, IsWire, IsAbsoluteWire, IsRelativeWire}

-- cutting undoes wire
cut_wire : (n : ℕ) (ls : List (List ℕ)) → length (wire ls) ≤ n → cut n (wire ls) ≡ ls
cut_wire zero [] h = refl
cut_wire (suc n) [] h = refl
cut_wire zero (l ∷ ls) h = absurd (omega (arith, h))
cut_wire (suc n) (l ∷ ls) h = rw (take-append_seam l (wire ls), drop-append_seam l (wire ls)) (ap (λ r. l ∷ r) (cut_wire n ls (omega (arith, h, length-append l (wire ls)))))

pub labels_in_wire : (ls : List (List ℕ)) → labels_in (wire ls) ≡ ls
labels_in_wire ls = cut_wire (length (wire ls)) ls (le_refl (length (wire ls)))

-- octets are the wire format of one list only
pub wire_once : (xs ys : List (List ℕ)) → wire xs ≡ wire ys → xs ≡ ys
wire_once xs ys e = sym (labels_in_wire xs) ∙ (ap labels_in e ∙ labels_in_wire ys)

-- wire takes one list after another
pub wire_append : (xs ys : List (List ℕ)) → wire (xs ++ ys) ≡ wire xs ++ wire ys
wire_append [] ys = refl
wire_append (x ∷ xs) ys = ap (λ r. length x ∷ r) (ap (λ r. x ++ r) (wire_append xs ys) ∙ sym (append_assoc x (wire xs) (wire ys)))

-- so its octets are those of both
pub length-wire_append : (xs ys : List (List ℕ)) → length (wire (xs ++ ys)) ≡ length (wire xs) + length (wire ys)
length-wire_append xs ys = ap length (wire_append xs ys) ∙ length-append (wire xs) (wire ys)

-- a list without octets has no labels
pub nil_from_wire : (ls : List (List ℕ)) → length (wire ls) ≡ 0 → ls ≡ []
nil_from_wire [] e = refl
nil_from_wire (l ∷ ls) e = absurd (omega (arith, e))

-- each label takes an octet at least
pub labels_le_wire : (ls : List (List ℕ)) → length ls ≤ length (wire ls)
labels_le_wire [] = omega arith
labels_le_wire (l ∷ ls) = omega (arith, labels_le_wire ls, length-append l (wire ls))

-- an absolute list has an octet at least, that of the root
pub absolute_some : (ls : List (List ℕ)) → IsAbsolute ls → 0 < length (wire ls)
absolute_some [] a = absurd a
absolute_some (l ∷ ls) a = omega arith

-- a relative list before an absolute one, and before a relative one
pub relative_then_absolute : (ls rs : List (List ℕ)) → IsRelative ls → IsAbsolute rs → IsAbsolute (ls ++ rs)
relative_then_absolute [] rs l r = r
relative_then_absolute ([] ∷ ls) rs l r = absurd l
relative_then_absolute ((x ∷ xs) ∷ ls) rs l r = (l.0, relative_then_absolute ls rs l.1 r)

pub relative_then_relative : (ls rs : List (List ℕ)) → IsRelative ls → IsRelative rs → IsRelative (ls ++ rs)
relative_then_relative [] rs l r = r
relative_then_relative ([] ∷ ls) rs l r = absurd l
relative_then_relative ((x ∷ xs) ∷ ls) rs l r = (l.0, relative_then_relative ls rs l.1 r)

-- a label alone
pub one_relative : (l : List ℕ) → IsLabel l → (l ≡ [] → ⊥) → IsRelative (l ∷ [])
one_relative [] h some = absurd (some refl)
one_relative (c ∷ l) h some = (h, tt)

-- no list is both
pub not_both : (ls : List (List ℕ)) → IsAbsolute ls → IsRelative ls → ⊥
not_both [] a r = a
not_both ([] ∷ ls) a r = r
not_both ((x ∷ xs) ∷ ls) a r = not_both ls a.1 r.1

-- absolute and relative labels are labels
pub absolute_labels : (ls : List (List ℕ)) → IsAbsolute ls → AreLabels ls
absolute_labels [] h = tt
absolute_labels ([] ∷ ls) h = (omega arith, subst AreLabels (sym h) tt)
absolute_labels ((x ∷ xs) ∷ ls) h = (h.0, absolute_labels ls h.1)

pub relative_labels : (ls : List (List ℕ)) → IsRelative ls → AreLabels ls
relative_labels [] h = tt
relative_labels ([] ∷ ls) h = absurd h
relative_labels ((x ∷ xs) ∷ ls) h = (h.0, relative_labels ls h.1)

-- the list that the octets of a name spell
pub absolute_list : {o : List ℕ} → IsAbsoluteWire o → IsAbsoluteName (labels_in o)
absolute_list {o} w = w.1

pub relative_list : {o : List ℕ} → IsRelativeWire o → IsRelativeName (labels_in o)
relative_list {o} w = w.1

pub absolute_wire : {o : List ℕ} → IsAbsoluteWire o → IsWire o
absolute_wire {o} w = (w.0, absolute_labels (labels_in o) w.1.0)

pub relative_wire : {o : List ℕ} → IsRelativeWire o → IsWire o
relative_wire {o} w = (w.0, relative_labels (labels_in o) w.1.0)

-- the octets that a name's list makes
pub wire_absolute : (ls : List (List ℕ)) → IsAbsoluteName ls → IsAbsoluteWire (wire ls)
wire_absolute ls a = (ap wire (labels_in_wire ls), subst IsAbsoluteName (sym (labels_in_wire ls)) a)

pub wire_relative : (ls : List (List ℕ)) → IsRelativeName ls → IsRelativeWire (wire ls)
wire_relative ls a = (ap wire (labels_in_wire ls), subst IsRelativeName (sym (labels_in_wire ls)) a)

-- each of these facts has one proof
AreLabels_prop : (ls : List (List ℕ)) → IsProp (AreLabels ls)
AreLabels_prop [] = Unit-prop
AreLabels_prop (l ∷ ls) = ×_prop le_prop (AreLabels_prop ls)

pub IsWire_prop : (o : List ℕ) → IsProp (IsWire o)
IsWire_prop o = ×_prop (Coded-set (coded_list coded_ℕ) _ _) (AreLabels_prop (labels_in o))

pub IsAbsolute_prop : (ls : List (List ℕ)) → IsProp (IsAbsolute ls)
IsAbsolute_prop [] = λ x y. absurd x
IsAbsolute_prop ([] ∷ ls) = Coded-set (coded_list (coded_list coded_ℕ)) _ _
IsAbsolute_prop ((x ∷ xs) ∷ ls) = ×_prop le_prop (IsAbsolute_prop ls)

pub IsRelative_prop : (ls : List (List ℕ)) → IsProp (IsRelative ls)
IsRelative_prop [] = Unit-prop
IsRelative_prop ([] ∷ ls) = λ x y. absurd x
IsRelative_prop ((x ∷ xs) ∷ ls) = ×_prop le_prop (IsRelative_prop ls)

pub IsAbsoluteWire_prop : (o : List ℕ) → IsProp (IsAbsoluteWire o)
IsAbsoluteWire_prop o = ×_prop (Coded-set (coded_list coded_ℕ) _ _) (×_prop (IsAbsolute_prop (labels_in o)) le_prop)

pub IsRelativeWire_prop : (o : List ℕ) → IsProp (IsRelativeWire o)
IsRelativeWire_prop o = ×_prop (Coded-set (coded_list coded_ℕ) _ _) (×_prop (IsRelative_prop (labels_in o)) le_prop)

pub IsAbsoluteName_prop : (ls : List (List ℕ)) → IsProp (IsAbsoluteName ls)
IsAbsoluteName_prop ls = ×_prop (IsAbsolute_prop ls) le_prop
