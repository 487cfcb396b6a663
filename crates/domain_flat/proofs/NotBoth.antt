-- Octets that are a name have no fault.
use Rattle.std.proofs.Common.{◌≡◌, ℕ, ◌+◌, ◌≤◌, inl, inr, List, [], ◌∷◌, ◌++◌, length, drop, sym, ◌∙◌, ap, subst, arith, append-nil}
use Rattle.domain_label.specs.Wire.{wire, labels_in, Root, IsAbsolute, IsRelative, IsAbsoluteWire, IsRelativeWire}
use Rattle.domain_label.specs.declared.split_error.SplitLabelError.TheVariants.{Pointer, BadType, ShortInput}
use Rattle.domain_label.proofs.WireLaws.{length-wire_append}
use Rattle.domain_wire.specs.Refusals.{Refusal}
use Rattle.domain_flat.specs.Flat.{LabelsBefore, NameAt}
use Rattle.domain_flat.specs.Faults.{AbsoluteFault, AbsoluteFaultAt, RelativeFault, RelativeFaultAt, StartFault, StartFaultAt}
use Rattle.domain_flat.specs.declared.error.NameErrorKind.{NameErrorKind}
use Rattle.domain_flat.specs.declared.error.NameErrorKind.TheVariants as absolute
use Rattle.domain_flat.specs.declared.error.RelativeNameErrorKind.{RelativeNameErrorKind}
use Rattle.domain_flat.specs.declared.error.RelativeNameErrorKind.TheVariants as relative
use Rattle.domain_flat.proofs.OneFault.{none_is_short}
use Rattle.domain_flat.proofs.LabelsFromLeft.{fault_not_absolute, end_not_absolute, root_ends, fault_not_relative, root_not_relative, absolute_once}

-- ---- absolute names

goes_on : (o : List ℕ) (fs : List (List ℕ)) (rest : List ℕ) (ls : List (List ℕ)) (k : NameErrorKind) → LabelsBefore o fs rest → IsAbsolute ls → o ≡ wire ls ++ [] → AbsoluteFaultAt fs rest k → ⊥
goes_on o fs rest ls (absolute.BadLabel t) p a e f = fault_not_absolute o fs rest (BadType t) ls [] p f a e
goes_on o fs rest ls absolute.CompressedName p a e f = fault_not_absolute o fs rest (Pointer f.0) ls [] p f.1 a e
goes_on o fs rest ls absolute.ShortInput p a e f = fault_not_absolute o fs rest ShortInput ls [] p f.0 a e
goes_on o fs rest ls absolute.RelativeName p a e f = end_not_absolute o fs rest ls [] p (ap length f.1) a e
goes_on o fs rest ls absolute.TrailingData p a e f = let d = root_ends o fs (f.0 ∷ f.1) ls [] (subst (λ x. LabelsBefore o fs x) f.2 p) a e in absurd (cc d.1)
goes_on o fs rest ls absolute.LongName p a e f = f

all_octets : (o : List ℕ) → wire (labels_in o) ≡ o → o ≡ wire (labels_in o) ++ []
all_octets o e = sym (append-nil (wire (labels_in o)) ∙ e)

pub absolute_not_both : (o : List ℕ) (k : NameErrorKind) → IsAbsoluteWire o → AbsoluteFault o k → ⊥
absolute_not_both o absolute.LongName n f = omega (arith, f, n.1.1, ap length n.0)
absolute_not_both o (absolute.BadLabel t) n f = goes_on o f.1.0 f.1.1 (labels_in o) (absolute.BadLabel t) f.1.2 n.1.0 (all_octets o n.0) f.1.3
absolute_not_both o absolute.CompressedName n f = goes_on o f.1.0 f.1.1 (labels_in o) absolute.CompressedName f.1.2 n.1.0 (all_octets o n.0) f.1.3
absolute_not_both o absolute.ShortInput n f = goes_on o f.1.0 f.1.1 (labels_in o) absolute.ShortInput f.1.2 n.1.0 (all_octets o n.0) f.1.3
absolute_not_both o absolute.RelativeName n f = goes_on o f.1.0 f.1.1 (labels_in o) absolute.RelativeName f.1.2 n.1.0 (all_octets o n.0) f.1.3
absolute_not_both o absolute.TrailingData n f = goes_on o f.1.0 f.1.1 (labels_in o) absolute.TrailingData f.1.2 n.1.0 (all_octets o n.0) f.1.3

-- ---- relative names

goes_on_relative : (o : List ℕ) (fs : List (List ℕ)) (rest : List ℕ) (ls : List (List ℕ)) (k : RelativeNameErrorKind) → LabelsBefore o fs rest → IsRelative ls → o ≡ wire ls → RelativeFaultAt rest k → ⊥
goes_on_relative o fs rest ls (relative.BadLabel t) p a e f = fault_not_relative o fs rest (BadType t) ls p f (none_is_short rest (BadType t) f (λ z. cc)) a e
goes_on_relative o fs rest ls relative.CompressedName p a e f = fault_not_relative o fs rest (Pointer f.0) ls p f.1 (none_is_short rest (Pointer f.0) f.1 (λ z. cc)) a e
goes_on_relative o fs rest ls relative.ShortInput p a e f = fault_not_relative o fs rest ShortInput ls p f.0 f.1 a e
goes_on_relative o fs rest ls relative.AbsoluteName p a e f = root_not_relative o rest ls ((fs, p), inr f) (omega (arith, ap length f.1)) a e
goes_on_relative o fs rest ls relative.LongName p a e f = f

pub relative_not_both : (o : List ℕ) (k : RelativeNameErrorKind) → IsRelativeWire o → RelativeFault o k → ⊥
relative_not_both o relative.LongName n f = omega (arith, f, n.1.1, ap length n.0)
relative_not_both o (relative.BadLabel t) n f = goes_on_relative o f.1.0 f.1.1 (labels_in o) (relative.BadLabel t) f.1.2 n.1.0 (sym n.0) f.1.3
relative_not_both o relative.CompressedName n f = goes_on_relative o f.1.0 f.1.1 (labels_in o) relative.CompressedName f.1.2 n.1.0 (sym n.0) f.1.3
relative_not_both o relative.ShortInput n f = goes_on_relative o f.1.0 f.1.1 (labels_in o) relative.ShortInput f.1.2 n.1.0 (sym n.0) f.1.3
relative_not_both o relative.AbsoluteName n f = goes_on_relative o f.1.0 f.1.1 (labels_in o) relative.AbsoluteName f.1.2 n.1.0 (sym n.0) f.1.3

-- ---- the name at an offset

goes_on_here : (o : List ℕ) (fs : List (List ℕ)) (rest : List ℕ) (ls : List (List ℕ)) (tail : List ℕ) (r : Refusal) → LabelsBefore o fs rest → IsAbsolute ls → length (wire ls) ≤ 255 → o ≡ wire ls ++ tail → StartFaultAt fs rest r → ⊥
goes_on_here o fs rest ls tail r p a short e (inl f) = fault_not_absolute o fs rest f.0 ls tail p f.1 a e
goes_on_here o fs rest ls tail r p a short e (inr f) =
    let d = root_ends o fs f.0 ls tail (subst (λ x. LabelsBefore o fs x) f.1 p) a e in
    omega (arith, f.2, short, ap (λ x. length (wire x)) d.0, length-wire_append fs Root)

pub start_not_both : (m : List ℕ) (p e : ℕ) (ls : List (List ℕ)) (r : Refusal) → NameAt m p ls e → StartFault (drop p m) r → ⊥
start_not_both m p e ls r n f = goes_on_here (drop p m) f.0 f.1 ls n.after r f.2 n.name.0 n.name.1 n.octets f.3

pub one_name : (m : List ℕ) (p e f : ℕ) (xs ys : List (List ℕ)) → NameAt m p xs e → NameAt m p ys f → (xs ≡ ys) × (e ≡ f)
one_name m p e f xs ys a b =
    let same : xs ≡ ys = absolute_once xs ys a.after b.after a.name.0 b.name.0 (sym a.octets ∙ b.octets) in
    (same, a.end ∙ ap (λ ls. p + length (wire ls)) same ∙ sym b.end)
