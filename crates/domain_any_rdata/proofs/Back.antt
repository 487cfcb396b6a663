-- The octets of fields, names with no pointer, are these fields again.
use Rattle.std.proofs.Common.{◌≡◌, ◌∙◌, ◌⊎◌, ℕ, ◌+◌, ◌-◌, ◌≤◌, false, List, [], ◌∷◌, ◌++◌, length, take, drop, slice_range, refl, sym, subst, ap, inl, inr, append_assoc, append-nil, length-append, length-drop, arith}
use Rattle.std.proofs.lemmas.List.{length-take-le, take-append-drop}
use Rattle.std.proofs.lemmas.List.Folds.{drop_split}
use Rattle.domain_label.specs.Wire.{wire}
use Rattle.domain_reading.proofs.LabelsAt.{labels_named}
use Rattle.domain_reading.proofs.Reading.{names_absolute, names_within}
use Rattle.domain_reading.proofs.Touching.{reads_inside}
use Rattle.domain_reading.proofs.UncompressedIsRead.{plain_names, plain_front}
use Rattle.domain_reading.specs.Grammar.{Names, EncodingEnds}
use Rattle.domain_reading.specs.Grammar.Stop.{root as stop_root}
use Rattle.domain_any_rdata.proofs.Moving.{moved, form_moved}
use Rattle.domain_any_rdata.proofs.Stopping.{field_stops}
use Rattle.domain_descriptor.proofs.Whole.{field_inside}
use Rattle.domain_descriptor.specs.Fields.{FormAt, FieldsAt, AreData}
use Rattle.domain_descriptor.specs.Forms.{form}
use Rattle.domain_descriptor.specs.declared.form.FieldForm.{FieldForm}
use Rattle.domain_descriptor.specs.declared.form.FieldForm.TheVariants as forms
use Rattle.domain_descriptor.specs.declared.kind.FieldKind.{FieldKind}
use Rattle.domain_fields.specs.Parts.{Part, a_name, no_name, part_octets, parts_octets}
use Rattle.domain_any_rdata.specs.Whole.{field_whole, form_whole}
use Rattle.domain_any_rdata.specs.Parts.{form_part, field_part, parts_at}
use Rattle.domain_any_rdata.proofs.Named.{form_octets}

-- ---- nothing is after the end
empty_range : (m : List ℕ) (p q : ℕ) → q ≤ p → slice_range m p q ≡ []
empty_range m p q less = let none : q - p ≡ 0 = omega (arith, less) in ap (λ (n : ℕ). take n (drop p m)) none

-- a form is that of names, or it isn't
pub names_or_others : (it : FieldForm) → (it ≡ forms.Name) ⊎ (it ≡ forms.Name → ⊥)
names_or_others (forms.Fixed n) = inr (λ e. cc)
names_or_others forms.Name = inl refl
names_or_others forms.Counted = inr (λ e. cc)
names_or_others forms.OptionalCounted = inr (λ e. cc)
names_or_others forms.SomeCounted = inr (λ e. cc)
names_or_others forms.Strings = inr (λ e. cc)
names_or_others forms.Tag = inr (λ e. cc)
names_or_others forms.LongCounted = inr (λ e. cc)
names_or_others forms.Blocks = inr (λ e. cc)
names_or_others forms.OptionalBlocks = inr (λ e. cc)
names_or_others forms.Params = inr (λ e. cc)
names_or_others forms.Rest = inr (λ e. cc)

-- the octets of a field that is at the end
none_here : (it : FieldForm) (m : List ℕ) (p e : ℕ) → p ≡ length m → e ≤ p → FormAt it m p e → (it ≡ forms.Name) ⊎ (it ≡ forms.Name → ⊥) → part_octets false (form_part it m p e) ≡ []
none_here it m p e end less at (inl name) =
    let there = subst (λ x. FormAt x m p e) name at in
    absurd (omega (arith, end, reads_inside there.0.1.reads))
none_here it m p e end less at (inr other) = ap (part_octets false) (form_octets it m p e other) ∙ empty_range m p e less

-- those of fields
pub nothing_left : (kinds : List FieldKind) (m : List ℕ) (p e : ℕ) → p ≡ length m → FieldsAt kinds m p e → parts_octets false (parts_at kinds m p) ≡ []
nothing_left [] m p e end at = refl
nothing_left (k ∷ kinds) m p e end (q, field, rest) =
    let stops = field_stops k m p q field in
    let after = field_inside k m p q (omega (arith, end)) field in
    let inside = field_whole k m p q field in
    let here : q ≡ length m = omega (arith, end, after, inside) in
    let first = none_here (form k) m p q end (omega (arith, end, inside)) field (names_or_others (form k)) in
    ap (λ (x : ℕ). part_octets false (field_part k m p x) ++ parts_octets false (parts_at kinds m x)) stops
    ∙ ap (λ (x : List ℕ). x ++ parts_octets false (parts_at kinds m q)) first
    ∙ nothing_left kinds m q e here rest

-- ---- one field
-- It is after other octets and before others.
abbrev Stands : FieldForm → List ℕ → Part → List ℕ → Type 0
Stands it t x u =
    FormAt it (t ++ (part_octets false x ++ u)) (length t) (length (t ++ part_octets false x))
    × (form_part it (t ++ (part_octets false x ++ u)) (length t) (length (t ++ part_octets false x)) ≡ x)

name_stands : (t : List ℕ) (ls : List (List ℕ)) (u m : List ℕ) (p : ℕ) → Names 255 m p ls → Stands forms.Name t (a_name ls) u
name_stands t ls u m p named =
    let o = wire ls in
    let a = names_absolute named in
    let w = append_assoc t o u in
    let there = subst (λ x. Names 255 x (length t) ls) w (names_within 255 (plain_names t u ls a) (omega arith)) in
    let front = plain_front t u ls a in
    let ends = subst (λ x. EncodingEnds x (length t) (length t + length o)) w (front.0, stop_root, front.1) in
    (((ls, there), subst (λ e. EncodingEnds (t ++ (o ++ u)) (length t) e) (sym (length-append t o)) ends), ap a_name (labels_named there))

split_at : (m : List ℕ) (p q : ℕ) → p ≤ q → m ≡ take p m ++ (slice_range m p q ++ drop q m)
split_at m p q ordered = sym (take-append-drop p m) ∙ ap (λ (x : List ℕ). take p m ++ x) (drop_split m p q ordered)

range_length : (m : List ℕ) (p q : ℕ) → p ≤ q → q ≤ length m → length (slice_range m p q) ≡ q - p
range_length m p q ordered inside = length-take-le (q - p) (drop p m) (omega (arith, length-drop p m, ordered, inside))

drop_some : (m : List ℕ) (q : ℕ) → drop q m ≡ [] → length m ≤ q
drop_some m q none = omega (arith, length-drop q m, ap (λ (x : List ℕ). length x) none)

pub other_stands : (it : FieldForm) (m : List ℕ) (p q : ℕ) (t u : List ℕ) → p ≤ length m → p ≤ q → FormAt it m p q → (it ≡ forms.Name → ⊥)
    → (q ≡ length m → u ≡ []) → Stands it t (no_name (slice_range m p q)) u
other_stands it m p q t u begins ordered field other last_too =
    let s = slice_range m p q in
    let inside = form_whole it m p q field in
    let w = t ++ (s ++ u) in
    let n = q - p in
    let size = range_length m p q ordered inside in
    let ends : length (t ++ s) ≡ length t + n = omega (arith, length-append t s, size) in
    let there = moved m w p (length t) n (take p m) s (drop q m) t u (split_at m p q ordered) refl
    (length-take-le p m begins) refl size (λ none. last_too (omega (arith, inside, drop_some m q none))) in
    let same_octets = there.range 0 n p q (length t) (length (t ++ s)) (omega arith) (omega arith) (omega arith) (omega (arith, ordered)) (omega arith) ends in (
      form_moved it m p w (length t) n q (length (t ++ s)) there (omega (arith, ordered)) ends other field,
      form_octets it w (length t) (length (t ++ s)) other ∙ ap no_name (sym same_octets),
    )

one_stands : (it : FieldForm) (m : List ℕ) (p q : ℕ) (t u : List ℕ) → p ≤ length m → p ≤ q → FormAt it m p q → (q ≡ length m → u ≡ [])
    → (it ≡ forms.Name) ⊎ (it ≡ forms.Name → ⊥) → Stands it t (form_part it m p q) u
one_stands it m p q t u begins ordered field last_too (inl name) =
    let there = subst (λ x. FormAt x m p q) name field in
    let named = there.0.1 in
    let same : a_name there.0.0 ≡ form_part it m p q = ap a_name (sym (labels_named named)) ∙ ap (λ x. form_part x m p q) (sym name) in
    subst (λ x. Stands it t x u) same (subst (λ x. Stands x t (a_name there.0.0) u) (sym name) (name_stands t there.0.0 u m p named))
one_stands it m p q t u begins ordered field last_too (inr other) =
    subst (λ x. Stands it t x u) (sym (form_octets it m p q other)) (other_stands it m p q t u begins ordered field other last_too)

-- ---- all of them
abbrev Again : List FieldKind → List Part → List ℕ → Type 0
Again ks xs t =
    FieldsAt ks (t ++ parts_octets false xs) (length t) (length (t ++ parts_octets false xs))
    × (parts_at ks (t ++ parts_octets false xs) (length t) ≡ xs)

stands : (ks : List FieldKind) (m : List ℕ) (p e : ℕ) → p ≤ length m → FieldsAt ks m p e → (t : List ℕ) → Again ks (parts_at ks m p) t
stands [] m p e begins at t = (ap (λ (x : List ℕ). length x) (append-nil t), refl)
stands (k ∷ ks) m p e begins (q, field, rest) t =
    let x = field_part k m p q in
    let xs = parts_at ks m q in
    let o = part_octets false x in
    let u = parts_octets false xs in
    let stops = field_stops k m p q field in
    let ordered = field_inside k m p q begins field in
    let one = one_stands (form k) m p q t u begins ordered field (λ end. nothing_left ks m q e end rest) (names_or_others (form k)) in
    let others = stands ks m q e (field_whole k m p q field) rest (t ++ o) in
    let after = subst (λ (w : List ℕ). FieldsAt ks w (length (t ++ o)) (length w)) (append_assoc t o u) others.0 in
    let same = subst (λ (w : List ℕ). parts_at ks w (length (t ++ o)) ≡ xs) (append_assoc t o u) others.1 in
    let w = t ++ (o ++ u) in
    let there = field_stops k w (length t) (length (t ++ o)) one.0 in
    let parts : parts_at (k ∷ ks) w (length t) ≡ x ∷ xs =
    ap (λ (y : ℕ). field_part k w (length t) y ∷ parts_at ks w y) there
    ∙ ap (λ (y : Part). y ∷ parts_at ks w (length (t ++ o))) one.1
    ∙ ap (λ (ys : List Part). x ∷ ys) same in
    subst (λ (y : ℕ). Again (k ∷ ks) (field_part k m p y ∷ parts_at ks m y) t) (sym stops) ((length (t ++ o), one.0, after), parts)

pub data_again : (ks : List FieldKind) (m : List ℕ) (p : ℕ) → p ≤ length m → AreData ks m p → AreData ks (parts_octets false (parts_at ks m p)) 0
data_again ks m p begins at = (stands ks m p (length m) begins at []).0

pub parts_again : (ks : List FieldKind) (m : List ℕ) (p : ℕ) → p ≤ length m → AreData ks m p → parts_at ks (parts_octets false (parts_at ks m p)) 0 ≡ parts_at ks m p
parts_again ks m p begins at = (stands ks m p (length m) begins at []).1
