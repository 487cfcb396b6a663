-- What contracts see of record data in a message, and of its fields.
use Rattle.std.specs.Prelude.{◌≡◌, ℕ, ◌<◌, List, [], ◌∷◌, length, take, get_or, Option, Some, None}
use Rattle.domain_descriptor.specs.Fields.{FieldAt, FieldsAt}
use Rattle.domain_descriptor.specs.Table.{known_fields}
use Rattle.domain_descriptor.specs.declared.kind.FieldKind.{FieldKind}
use Rattle.domain_descriptor.specs.declared.kind.FieldKind.TheVariants.{Number8}
use Rattle.domain_descriptor.specs.declared.rdata.Rdata.{Rdata}
use Rattle.domain_descriptor.specs.declared.rdata.Field.{Field}
use Rattle.domain_descriptor.specs.declared.rdata.FieldIter.{FieldIter}

-- the type of the record
abbrev pub rdata_type : Rdata → ℕ
rdata_type it = it.rtype

-- the class of the record
abbrev pub rdata_class : Rdata → ℕ
rdata_class it = it.class

-- its fields, in their order
abbrev pub rdata_kinds : Rdata → List FieldKind
rdata_kinds it = it.kinds.now

-- the message up to the end of the data
abbrev pub rdata_message : Rdata → List ℕ
rdata_message it = it.message.now

-- the offset at which it begins
abbrev pub rdata_begin : Rdata → ℕ
rdata_begin it = it.begin

-- what a field is
abbrev pub field_kind : Field → FieldKind
field_kind it = it.kind

-- the message up to the end of the data
abbrev pub field_message : Field → List ℕ
field_message it = it.message.now

-- the offset at which the field begins
abbrev pub field_begin : Field → ℕ
field_begin it = it.begin

-- the offset after it
abbrev pub field_after : Field → ℕ
field_after it = it.end

-- It is of this type and class, and from p to the end of m.
pub record IsRdata (rtype class : ℕ) (m : List ℕ) (p : ℕ) (it : Rdata) : Type 0 where
  pub typed : rdata_type it ≡ rtype
  pub classed : rdata_class it ≡ class
  pub octets : rdata_message it ≡ m
  pub begins : rdata_begin it ≡ p
  pub kinds : rdata_kinds it ≡ known_fields rtype class

-- It is the field of this data with so many before it.
pub record IsField (all : Rdata) (index : ℕ) (it : Field) : Type 0 where
  pub some : index < length (rdata_kinds all)
  pub kind : field_kind it ≡ get_or (rdata_kinds all) index Number8
  pub octets : field_message it ≡ rdata_message all
  pub before : FieldsAt (take index (rdata_kinds all)) (rdata_message all) (rdata_begin all) (field_begin it)
  pub at : FieldAt (field_kind it) (rdata_message all) (field_begin it) (field_after it)

-- the kinds of the fields that an iterator has left, in their order
abbrev pub kinds_left : FieldIter → List FieldKind
kinds_left it = it.kinds.now

-- the message up to the end of the data
abbrev pub fields_message : FieldIter → List ℕ
fields_message it = it.message.now

-- the offset at which the next field begins
abbrev pub fields_offset : FieldIter → ℕ
fields_offset it = it.at

-- Fields of these kinds are left, and the first begins at p in m.
pub record HasFieldsLeft (ks : List FieldKind) (m : List ℕ) (p : ℕ) (it : FieldIter) : Type 0 where
  pub kinds : kinds_left it ≡ ks
  pub octets : fields_message it ≡ m
  pub begins : fields_offset it ≡ p

-- A call of `next` took this field. It is of the first kind that was left, and begins where the next field was to
-- begin. The other kinds are left, and the field after it begins where it ends.
pub record TakesField (old : FieldIter) (it : Field) (new : FieldIter) : Type 0 where
  pub kinds : kinds_left old ≡ field_kind it ∷ kinds_left new
  pub octets : field_message it ≡ fields_message old
  pub begins : field_begin it ≡ fields_offset old
  pub at : FieldAt (field_kind it) (fields_message old) (fields_offset old) (field_after it)
  pub same_octets : fields_message new ≡ fields_message old
  pub next_begins : fields_offset new ≡ field_after it

-- A call of `next` returned the first field that was left, or `None` where none was.
abbrev pub GivesField : FieldIter → Option Field → FieldIter → Type 0
GivesField old None new = (kinds_left old ≡ []) × (kinds_left new ≡ [])
GivesField old (Some it) new = TakesField old it new
