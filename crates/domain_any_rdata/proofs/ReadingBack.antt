-- What is composed for data is read as the same data.
use Rattle.std.proofs.Common.{◌≡◌, ◌∙◌, ◌⊎◌, ℕ, ◌+◌, ◌≤◌, Bool, true, false, List, [], ◌∷◌, ◌++◌, length, slice_range, refl, sym, subst, ap, inl, inr, append_assoc, length-append, arith}
use Rattle.domain_label.specs.Lowercase.{lowercase_labels}
use Rattle.domain_label.specs.Wire.{IsAbsoluteName}
use Rattle.domain_reading.proofs.LabelsAt.{labels_named}
use Rattle.domain_reading.proofs.Reading.{names_absolute}
use Rattle.domain_reading.specs.Grammar.{EncodingEnds}
use Rattle.domain_reading.specs.Labels.{labels_at}
use Rattle.domain_any_rdata.proofs.Stopping.{field_stops}
use Rattle.domain_descriptor.proofs.Whole.{field_inside}
use Rattle.domain_descriptor.specs.Fields.{FormAt, FieldsAt, AreData}
use Rattle.domain_descriptor.specs.Forms.{form}
use Rattle.domain_descriptor.specs.Rdatas.{rdata_kinds, rdata_message, rdata_begin}
use Rattle.domain_descriptor.specs.Table.{known_fields, compresses_names}
use Rattle.domain_descriptor.specs.declared.form.FieldForm.{FieldForm}
use Rattle.domain_descriptor.specs.declared.form.FieldForm.TheVariants as forms
use Rattle.domain_descriptor.specs.declared.kind.FieldKind.{FieldKind}
use Rattle.domain_fields.specs.Names.{NameFieldAt}
use Rattle.domain_fields.specs.Parts.{Part, a_name, no_name, part_octets, parts_octets}
use Rattle.domain_fields.specs.ReadBack.{name_read_back, wire_read_back}
use Rattle.domain_fields.specs.Sequences.{both_shorter}
use Rattle.domain_fields.specs.FieldLaws.{no_longer}
use Rattle.domain_any_rdata.specs.AllData.{data_of, data_type, data_class, data_parts, SeenData}
use Rattle.domain_any_rdata.specs.Back.{LikePart, LikeParts, SeenAt, IsLike}
use Rattle.domain_any_rdata.specs.Composing.{PartComposed, PartsComposed, composed_form, lowers, part_shorter}
use Rattle.domain_any_rdata.specs.Whole.{field_whole}
use Rattle.domain_any_rdata.specs.Parts.{form_part, field_part, parts_at}
use Rattle.domain_any_rdata.specs.declared.all.AllRecordData.{AllRecordData}
use Rattle.domain_any_rdata.specs.declared.name_form.NameForm.{NameForm}
use Rattle.domain_any_rdata.proofs.Back.{names_or_others, nothing_left, other_stands}
use Rattle.domain_any_rdata.proofs.Named.{form_octets}

-- ---- a name is read as an equal one
composed_name : (compressed : Bool) (ls : List (List ℕ)) (c : Bool) (t s u : List ℕ) → IsAbsoluteName ls → PartComposed (a_name ls) (composed_form compressed) c t s
    → (seen : List (List ℕ)) × NameFieldAt ((t ++ s) ++ u) (length t) seen (length t + length s) × (lowercase_labels seen ≡ lowercase_labels ls)
composed_name true ls c t s u absolute may = name_read_back ls c t s u may
composed_name false ls c t s u absolute may = wire_read_back ls absolute c t s u may

-- A field with the octets s is read behind t, as one like the part.
abbrev ReadsLike : FieldForm → Part → List ℕ → List ℕ → List ℕ → Type 0
ReadsLike it x t s u =
    FormAt it ((t ++ s) ++ u) (length t) (length (t ++ s))
    × LikePart x (form_part it ((t ++ s) ++ u) (length t) (length (t ++ s)))

name_reads : (compressed c : Bool) (t s u : List ℕ) (ls : List (List ℕ)) → IsAbsoluteName ls → PartComposed (a_name ls) (composed_form compressed) c t s → ReadsLike forms.Name (a_name ls) t s u
name_reads compressed c t s u ls absolute may =
    let seen = composed_name compressed ls c t s u absolute may in
    let there = subst (λ (e : ℕ). EncodingEnds ((t ++ s) ++ u) (length t) e) (sym (length-append t s)) seen.1.front in
    (((seen.0, seen.1.named), there), ap lowercase_labels (labels_named seen.1.named) ∙ seen.2)

-- ---- other octets are the same
other_reads : (it : FieldForm) (m : List ℕ) (p q : ℕ) (t s u : List ℕ) → p ≤ length m → p ≤ q → FormAt it m p q → (it ≡ forms.Name → ⊥) → (q ≡ length m → u ≡ [])
    → s ≡ slice_range m p q → ReadsLike it (no_name (slice_range m p q)) t s u
other_reads it m p q t s u begins ordered field other last_too same =
    let o = slice_range m p q in
    let there = other_stands it m p q t u begins ordered field other last_too in
    let at = subst (λ (w : List ℕ). FormAt it w (length t) (length (t ++ o))) (sym (append_assoc t o u)) there.0 in
    let is = subst (λ (w : List ℕ). form_part it w (length t) (length (t ++ o)) ≡ no_name o) (sym (append_assoc t o u)) there.1 in
    subst (λ (x : List ℕ). ReadsLike it (no_name o) t x u) (sym same) (at, subst (λ (x : Part). LikePart (no_name o) x) (sym is) refl)

-- ---- a field
one_reads : (compressed c : Bool) (it : FieldForm) (m : List ℕ) (p q : ℕ) (t s u : List ℕ) → p ≤ length m → p ≤ q → FormAt it m p q → (q ≡ length m → u ≡ [])
    → (it ≡ forms.Name) ⊎ (it ≡ forms.Name → ⊥) → PartComposed (form_part it m p q) (composed_form compressed) c t s → ReadsLike it (form_part it m p q) t s u
one_reads compressed c it m p q t s u begins ordered field last_too (inl name) may =
    let there = subst (λ x. FormAt x m p q) name field in
    let absolute = subst IsAbsoluteName (sym (labels_named there.0.1)) (names_absolute there.0.1) in
    let so : PartComposed (a_name (labels_at m p)) (composed_form compressed) c t s = subst (λ x. PartComposed (form_part x m p q) (composed_form compressed) c t s) name may in
    subst (λ x. ReadsLike x (form_part x m p q) t s u) (sym name) (name_reads compressed c t s u (labels_at m p) absolute so)
one_reads compressed c it m p q t s u begins ordered field last_too (inr other) may =
    let is = form_octets it m p q other in
    let so : s ≡ slice_range m p q = subst (λ (x : Part). PartComposed x (composed_form compressed) c t s) is may in
    subst (λ (x : Part). ReadsLike it x t s u) (sym is) (other_reads it m p q t s u begins ordered field other last_too so)

-- ---- all of them
parts_shorter : (xs : List Part) (how : NameForm) (c : Bool) (t s : List ℕ) → PartsComposed xs how c t s → length s ≤ length (parts_octets (lowers how) xs)
parts_shorter [] how c t s is = no_longer [] s is
parts_shorter (x ∷ xs) how c t s both =
    both_shorter (PartComposed x how c) (PartsComposed xs how c) t s (part_octets (lowers how) x) (parts_octets (lowers how) xs) (part_shorter x how c) (parts_shorter xs how c) both

no_octets : (xs : List ℕ) → length xs ≤ 0 → xs ≡ []
no_octets [] none = refl
no_octets (x ∷ xs) none = absurd (omega (arith, none))

none_composed : (compressed : Bool) (xs : List Part) (c : Bool) (t s : List ℕ) → parts_octets false xs ≡ [] → PartsComposed xs (composed_form compressed) c t s → s ≡ []
none_composed true xs c t s none may = no_octets s (subst (λ (o : List ℕ). length s ≤ length o) none (parts_shorter xs (composed_form true) c t s may))
none_composed false xs c t s none may = no_octets s (subst (λ (o : List ℕ). length s ≤ length o) none (parts_shorter xs (composed_form false) c t s may))

fields_read : (compressed c : Bool) (ks : List FieldKind) (m : List ℕ) (p e : ℕ) → p ≤ length m → FieldsAt ks m p e → (t s : List ℕ) → PartsComposed (parts_at ks m p) (composed_form compressed) c t s
    → FieldsAt ks (t ++ s) (length t) (length (t ++ s)) × LikeParts (parts_at ks m p) (parts_at ks (t ++ s) (length t))
fields_read compressed c [] m p e begins at t s may = (omega (arith, length-append t s, ap (λ (x : List ℕ). length x) may), tt)
fields_read compressed c (k ∷ ks) m p e begins (q, field, rest) t s may =
    let how = composed_form compressed in
    let x = field_part k m p q in
    let xs = parts_at ks m q in
    let stops = field_stops k m p q field in
    let both : PartsComposed (x ∷ xs) how c t s = subst (λ (y : ℕ). PartsComposed (field_part k m p y ∷ parts_at ks m y) how c t s) stops may in
    let a = both.first in
    let b = both.rest in
    let ordered = field_inside k m p q begins field in
    let one = one_reads compressed c (form k) m p q t a b begins ordered field (λ end. none_composed compressed xs c (t ++ a) b (nothing_left ks m q e end rest) both.rest_allowed) (names_or_others (form k)) both.first_allowed in
    let others = fields_read compressed c ks m q e (field_whole k m p q field) rest (t ++ a) b both.rest_allowed in
    let whole : (t ++ a) ++ b ≡ t ++ s = append_assoc t a b ∙ ap (λ (y : List ℕ). t ++ y) (sym both.all) in
    let at = subst (λ (w : List ℕ). FormAt (form k) w (length t) (length (t ++ a))) whole one.0 in
    let like = subst (λ (w : List ℕ). LikePart x (form_part (form k) w (length t) (length (t ++ a)))) whole one.1 in
    let after = subst (λ (w : List ℕ). FieldsAt ks w (length (t ++ a)) (length w)) whole others.0 in
    let same = subst (λ (w : List ℕ). LikeParts xs (parts_at ks w (length (t ++ a)))) whole others.1 in
    let w = t ++ s in
    let there = field_stops k w (length t) (length (t ++ a)) at in
    let parts = subst (λ (y : ℕ). LikeParts (x ∷ xs) (field_part k w (length t) y ∷ parts_at ks w y)) (sym there) (like, same) in
    subst (λ (y : ℕ). FieldsAt (k ∷ ks) w (length t) (length w) × LikeParts (field_part k m p y ∷ parts_at ks m y) (parts_at (k ∷ ks) w (length t))) (sym stops)
    ((length (t ++ a), at, after), parts)

pub data_read_back : (it : AllRecordData) → AreData (rdata_kinds (data_of it)) (rdata_message (data_of it)) (rdata_begin (data_of it))
    → (c : Bool) (t s : List ℕ) → PartsComposed (data_parts it) (composed_form (compresses_names (data_type it))) c t s
    → (seen : SeenData) × SeenAt (data_type it) (t ++ s) (length t) seen (length t + length s) × IsLike it seen
data_read_back it at c t s may =
    let r = data_of it in
    let w = t ++ s in
    let read = fields_read (compresses_names (data_type it)) c (rdata_kinds r) (rdata_message r) (rdata_begin r) (length (rdata_message r)) r.inside at t s may in
    let are = subst (λ (ks : List FieldKind). AreData ks w (length t)) it.known read.0 in
    let like = subst (λ (ks : List FieldKind). LikeParts (data_parts it) (parts_at ks w (length t))) it.known read.1 in (
      (data_class it, parts_at (known_fields (data_type it) (data_class it)) w (length t)),
      record { inside = omega (arith, length-append t s); are = are; says = refl; ends = sym (length-append t s) },
      (refl, like),
    )
