-- The fields of record data as parts: names, and octets that are no name (`Part` of domain_fields). Functions of the
-- octets, so that ghost members can say them: where fields are, `parts_at` are what they are (proofs/Named).
use Rattle.std.specs.Prelude.{ℕ, List, [], ◌∷◌, drop, slice_range}
use Rattle.std.specs.Coded.{×_prop, Unit-prop}
use Rattle.domain_label.specs.Wire.{IsAbsoluteName}
use Rattle.domain_label.proofs.WireLaws.{IsAbsoluteName_prop}
use Rattle.domain_reading.specs.Labels.{labels_at}
use Rattle.domain_descriptor.specs.Fields.{AreData}
use Rattle.domain_descriptor.specs.Forms.{form}
use Rattle.domain_descriptor.specs.Rdatas.{rdata_kinds, rdata_message, rdata_begin, field_kind, field_message, field_begin, field_after, kinds_left, fields_message, fields_offset}
use Rattle.domain_any_rdata.specs.Stops.{field_stop}
use Rattle.domain_descriptor.specs.declared.form.FieldForm.{FieldForm}
use Rattle.domain_descriptor.specs.declared.form.FieldForm.TheVariants as forms
use Rattle.domain_descriptor.specs.declared.kind.FieldKind.{FieldKind}
use Rattle.domain_descriptor.specs.declared.rdata.Rdata.{Rdata}
use Rattle.domain_descriptor.specs.declared.rdata.Field.{Field}
use Rattle.domain_descriptor.specs.declared.rdata.FieldIter.{FieldIter}
use Rattle.domain_fields.specs.Parts.{Part, a_name, no_name}

-- the part that a field from p to e is
abbrev pub form_part : FieldForm → List ℕ → ℕ → ℕ → Part
form_part (forms.Fixed n) m p e = no_name (slice_range m p e)
form_part forms.Name m p e = a_name (labels_at m p)
form_part forms.Counted m p e = no_name (slice_range m p e)
form_part forms.OptionalCounted m p e = no_name (slice_range m p e)
form_part forms.SomeCounted m p e = no_name (slice_range m p e)
form_part forms.Strings m p e = no_name (slice_range m p e)
form_part forms.Tag m p e = no_name (slice_range m p e)
form_part forms.LongCounted m p e = no_name (slice_range m p e)
form_part forms.Blocks m p e = no_name (slice_range m p e)
form_part forms.OptionalBlocks m p e = no_name (slice_range m p e)
form_part forms.Params m p e = no_name (slice_range m p e)
form_part forms.Rest m p e = no_name (slice_range m p e)

abbrev pub field_part : FieldKind → List ℕ → ℕ → ℕ → Part
field_part kind m p e = form_part (form kind) m p e

-- the parts of fields of these kinds at p, one after another
abbrev pub parts_at : List FieldKind → List ℕ → ℕ → List Part
parts_at [] m p = []
parts_at (kind ∷ kinds) m p = field_part kind m p (field_stop kind m p) ∷ parts_at kinds m (field_stop kind m p)

-- the octets of record data as they are in the message
abbrev pub raw_octets : Rdata → List ℕ
raw_octets it = drop (rdata_begin it) (rdata_message it)

-- the parts of record data
abbrev pub rdata_parts : Rdata → List Part
rdata_parts it = parts_at (rdata_kinds it) (rdata_message it) (rdata_begin it)

-- the part that a field is
abbrev pub part_of : Field → Part
part_of it = field_part (field_kind it) (field_message it) (field_begin it) (field_after it)

-- the parts of the remaining fields
abbrev pub parts_left : FieldIter → List Part
parts_left it = parts_at (kinds_left it) (fields_message it) (fields_offset it)

-- A part that is a name is one of at most 255 octets.
abbrev pub IsNamed : Part → Type 0
IsNamed (a_name ls) = IsAbsoluteName ls
IsNamed (no_name octets) = Unit {0}

abbrev pub AreNamed : List Part → Type 0
AreNamed [] = Unit {0}
AreNamed (x ∷ xs) = IsNamed x × AreNamed xs

IsNamed_prop : (x : Part) → IsProp (IsNamed x)
IsNamed_prop (a_name ls) = IsAbsoluteName_prop ls
IsNamed_prop (no_name octets) = Unit-prop

pub AreNamed_prop : (xs : List Part) → IsProp (AreNamed xs)
AreNamed_prop [] = Unit-prop
AreNamed_prop (x ∷ xs) = ×_prop (IsNamed_prop x) (AreNamed_prop xs)

-- The octets of m from p on are data with fields of these kinds: it is impossible that they aren't.
abbrev pub CantBeOthers : List FieldKind → List ℕ → ℕ → Type 0
CantBeOthers kinds m p = (AreData kinds m p → ⊥) → ⊥

abbrev pub IsDataOf : Rdata → Type 0
IsDataOf it = CantBeOthers (rdata_kinds it) (rdata_message it) (rdata_begin it)
