-- Fields of data are its parts.
use Rattle.std.proofs.Common.{◌≡◌, ◌∙◌, ℕ, List, [], ◌∷◌, length, slice_range, refl, sym, ap, subst}
use Rattle.domain_label.specs.Wire.{IsAbsoluteName}
use Rattle.domain_reading.proofs.LabelsAt.{labels_named}
use Rattle.domain_reading.proofs.Reading.{names_absolute}
use Rattle.domain_reading.specs.Grammar.{Names}
use Rattle.domain_any_rdata.proofs.Stopping.{field_stops}
use Rattle.domain_descriptor.proofs.Exact.{data_or_fault}
use Rattle.domain_descriptor.specs.Fields.{FormAt, FieldsAt, AreData, AreNoData}
use Rattle.domain_descriptor.specs.Forms.{form}
use Rattle.domain_descriptor.specs.Rdatas.{rdata_type, rdata_class, rdata_kinds, rdata_message, rdata_begin, field_kind, field_message, field_begin, field_after, kinds_left, fields_message, fields_offset, IsRdata, HasFieldsLeft, TakesField}
use Rattle.domain_any_rdata.specs.Stops.{stop}
use Rattle.domain_descriptor.specs.Table.{known_fields}
use Rattle.domain_descriptor.specs.declared.fault.DataFault.{DataFault}
use Rattle.domain_descriptor.specs.declared.form.FieldForm.{FieldForm}
use Rattle.domain_descriptor.specs.declared.form.FieldForm.TheVariants as forms
use Rattle.domain_descriptor.specs.declared.kind.FieldKind.{FieldKind}
use Rattle.domain_descriptor.specs.declared.kind.FieldKind.TheVariants as kinds
use Rattle.domain_descriptor.specs.declared.rdata.Rdata.{Rdata}
use Rattle.domain_descriptor.specs.declared.rdata.Field.{Field}
use Rattle.domain_descriptor.specs.declared.rdata.FieldIter.{FieldIter}
use Rattle.domain_fields.specs.Parts.{a_name, no_name}
use Rattle.domain_any_rdata.specs.Parts.{form_part, field_part, parts_at, rdata_parts, part_of, parts_left, IsNamed, AreNamed, CantBeOthers, IsDataOf}

-- ---- each part is named
form_named : (it : FieldForm) (m : List ℕ) (p e : ℕ) → FormAt it m p e → IsNamed (form_part it m p (stop it m p))
form_named (forms.Fixed n) m p e at = tt
form_named forms.Name m p e at = subst IsAbsoluteName (sym (labels_named at.0.1)) (names_absolute at.0.1)
form_named forms.Counted m p e at = tt
form_named forms.OptionalCounted m p e at = tt
form_named forms.SomeCounted m p e at = tt
form_named forms.Strings m p e at = tt
form_named forms.Tag m p e at = tt
form_named forms.LongCounted m p e at = tt
form_named forms.Blocks m p e at = tt
form_named forms.OptionalBlocks m p e at = tt
form_named forms.Params m p e at = tt
form_named forms.Rest m p e at = tt

pub fields_named : (kinds : List FieldKind) (m : List ℕ) (p e : ℕ) → FieldsAt kinds m p e → AreNamed (parts_at kinds m p)
fields_named [] m p e at = tt
fields_named (k ∷ kinds) m p e (q, first, rest) =
    (form_named (form k) m p q first, subst (λ x. AreNamed (parts_at kinds m x)) (sym (field_stops k m p q first)) (fields_named kinds m q e rest))

-- of what `Rdata::parse` returned
pub data_named : (rtype class : ℕ) (m : List ℕ) (p : ℕ) (it : Rdata) → IsRdata rtype class m p it → AreData (known_fields rtype class) m p → AreNamed (rdata_parts it)
data_named rtype class m p it is at =
    let all = fields_named (known_fields rtype class) m p (length m) at in
    subst (λ ks. AreNamed (parts_at ks (rdata_message it) (rdata_begin it))) (sym is.kinds)
    (subst (λ x. AreNamed (parts_at (known_fields rtype class) x (rdata_begin it))) (sym is.octets)
    (subst (λ x. AreNamed (parts_at (known_fields rtype class) m x)) (sym is.begins) all))

-- ---- what a field is
pub form_octets : (it : FieldForm) (m : List ℕ) (p e : ℕ) → (it ≡ forms.Name → ⊥) → form_part it m p e ≡ no_name (slice_range m p e)
form_octets (forms.Fixed n) m p e other = refl
form_octets forms.Name m p e other = absurd (other refl)
form_octets forms.Counted m p e other = refl
form_octets forms.OptionalCounted m p e other = refl
form_octets forms.SomeCounted m p e other = refl
form_octets forms.Strings m p e other = refl
form_octets forms.Tag m p e other = refl
form_octets forms.LongCounted m p e other = refl
form_octets forms.Blocks m p e other = refl
form_octets forms.OptionalBlocks m p e other = refl
form_octets forms.Params m p e other = refl
form_octets forms.Rest m p e other = refl

-- a name, as `Field::name` returns it
pub named_part : (f : Field) (ls : List (List ℕ)) → field_kind f ≡ kinds.Name → Names 255 (field_message f) (field_begin f) ls → part_of f ≡ a_name ls
named_part f ls is named =
    ap (λ k. field_part k (field_message f) (field_begin f) (field_after f)) is ∙ ap a_name (labels_named named)

-- only a name is read as one
name_alone : (k : FieldKind) → (k ≡ kinds.Name → ⊥) → form k ≡ forms.Name → ⊥
name_alone kinds.Number8 other e = cc
name_alone kinds.Number16 other e = cc
name_alone kinds.Number32 other e = cc
name_alone kinds.Number48 other e = cc
name_alone kinds.Number64 other e = cc
name_alone kinds.Ttl other e = cc
name_alone kinds.Serial other e = cc
name_alone kinds.Time other e = cc
name_alone kinds.Rtype other e = cc
name_alone kinds.Ipv4 other e = cc
name_alone kinds.Ipv6 other e = cc
name_alone kinds.Name other e = other refl
name_alone kinds.CharString other e = cc
name_alone kinds.OptionalString other e = cc
name_alone kinds.CharStrings other e = cc
name_alone kinds.Tag other e = cc
name_alone kinds.QuotedText other e = cc
name_alone kinds.CountedBase16 other e = cc
name_alone kinds.CountedBase32 other e = cc
name_alone kinds.CountedBase64 other e = cc
name_alone kinds.TypeBitmaps other e = cc
name_alone kinds.OptionalTypeBitmaps other e = cc
name_alone kinds.SvcParams other e = cc
name_alone kinds.Base16 other e = cc
name_alone kinds.Base64 other e = cc
name_alone kinds.Octets other e = cc

-- and octets, as `Field::octets` does
pub octets_part : (f : Field) → (field_kind f ≡ kinds.Name → ⊥) → part_of f ≡ no_name (slice_range (field_message f) (field_begin f) (field_after f))
octets_part f other = form_octets (form (field_kind f)) (field_message f) (field_begin f) (field_after f) (name_alone (field_kind f) other)

-- ---- the iterator
pub all_left : (it : Rdata) (fields : FieldIter) → HasFieldsLeft (rdata_kinds it) (rdata_message it) (rdata_begin it) fields → parts_left fields ≡ rdata_parts it
all_left it fields has =
    ap (λ ks. parts_at ks (fields_message fields) (fields_offset fields)) has.kinds
    ∙ ap (λ m. parts_at (rdata_kinds it) m (fields_offset fields)) has.octets
    ∙ ap (λ p. parts_at (rdata_kinds it) (rdata_message it) p) has.begins

pub part_taken : (old : FieldIter) (f : Field) (new : FieldIter) → TakesField old f new → parts_left old ≡ part_of f ∷ parts_left new
part_taken old f new s =
    let m = fields_message old in
    let p = fields_offset old in
    let k = field_kind f in
    let e = field_after f in
    let ks = kinds_left new in
    ap (λ x. parts_at x m p) s.kinds
    ∙ ap (λ q. field_part k m p q ∷ parts_at ks m q) (field_stops k m p e s.at)
    ∙ ap (λ q. field_part k m p e ∷ parts_at ks m q) (sym s.next_begins)
    ∙ ap (λ x. field_part k m p e ∷ parts_at ks x (fields_offset new)) (sym s.same_octets)
    ∙ ap (λ x. field_part k x p e ∷ parts_left new) (sym s.octets)
    ∙ ap (λ x. field_part k (field_message f) x e ∷ parts_left new) (sym s.begins)

pub none_left : (it : FieldIter) → kinds_left it ≡ [] → parts_left it ≡ []
none_left it none = ap (λ ks. parts_at ks (fields_message it) (fields_offset it)) none

-- two views of the same octets have the same parts
pub parts_of_data : (rtype class : ℕ) (m : List ℕ) (p : ℕ) (it : Rdata) → IsRdata rtype class m p it → rdata_parts it ≡ parts_at (known_fields rtype class) m p
parts_of_data rtype class m p it is =
    ap (λ ks. parts_at ks (rdata_message it) (rdata_begin it)) is.kinds
    ∙ ap (λ x. parts_at (known_fields rtype class) x (rdata_begin it)) is.octets
    ∙ ap (λ x. parts_at (known_fields rtype class) m x) is.begins

-- ---- what was read, and what is known of it
pub known_kinds : (rtype class : ℕ) (m : List ℕ) (p : ℕ) (it : Rdata) → IsRdata rtype class m p it → rdata_kinds it ≡ known_fields (rdata_type it) (rdata_class it)
known_kinds rtype class m p it is =
    is.kinds ∙ ap (λ (t : ℕ). known_fields t class) (sym is.typed) ∙ ap (λ (c : ℕ). known_fields (rdata_type it) c) (sym is.classed)

pub data_certain : (rtype class : ℕ) (m : List ℕ) (p : ℕ) (it : Rdata) → IsRdata rtype class m p it → AreData (known_fields rtype class) m p → IsDataOf it
data_certain rtype class m p it is at =
    subst (λ ks. CantBeOthers ks (rdata_message it) (rdata_begin it)) (sym is.kinds)
    (subst (λ (x : List ℕ). CantBeOthers (known_fields rtype class) x (rdata_begin it)) (sym is.octets)
    (subst (λ (x : ℕ). CantBeOthers (known_fields rtype class) m x) (sym is.begins) (λ none. none at)))

-- octets that are data have no fault
pub no_fault : (kinds : List FieldKind) (m : List ℕ) (p : ℕ) → CantBeOthers kinds m p → (why : DataFault) → AreNoData kinds m p why → ⊥
no_fault kinds m p certain why fault = certain (λ at. data_or_fault kinds m p why at fault)
