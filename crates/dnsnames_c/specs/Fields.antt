-- Fields in the data of records, by the table of types (RFC 1035, 3.3). The data are octets of the message from p on,
-- so many.
use Rattle.std.specs.Prelude.{◌≡◌, ◌⊎◌, ℕ, ◌+◌, ◌≤◌, ◌<◌, List, length, take, unwrap_or}
use Rattle.domain_descriptor.specs.Fields.{AreData, AreNoData}
use Rattle.domain_descriptor.specs.Rdatas.{field_kind, field_message, field_begin, field_after, IsRdata, IsField}
use Rattle.domain_descriptor.specs.Table.{known_fields}
use Rattle.domain_descriptor.specs.Values.{number_in}
use Rattle.domain_descriptor.specs.declared.fault.DataFault.{DataFault}
use Rattle.domain_descriptor.specs.declared.fault.DataFault.TheVariants.{ShortInput}
use Rattle.domain_descriptor.specs.declared.rdata.Field.{Field}
use Rattle.domain_descriptor.specs.declared.rdata.Rdata.{Rdata}
use Rattle.dnsnames_c.specs.Status.{data_number, kind_number}

-- They are data of this type in this class: its fields, and no octet more.
pub record AreDataIn (message : List ℕ) (p len rtype class : ℕ) : Type 0 where
  pub inside : p + len ≤ length message
  pub whole : AreData (known_fields rtype class) (take (p + len) message) p

-- They aren't, and why: they end past the message, or have this first error from the left.
abbrev pub AreNoDataIn : List ℕ → ℕ → ℕ → ℕ → ℕ → DataFault → Type 0
AreNoDataIn message p len rtype class why =
    ((length message < p + len) × (why ≡ ShortInput))
    ⊎ ((p + len ≤ length message)
    × AreNoData (known_fields rtype class) (take (p + len) message) p why)

-- They are such data, and are read as these.
abbrev pub ReadsData : List ℕ → ℕ → ℕ → ℕ → ℕ → Rdata → Type 0
ReadsData message p len rtype class it =
    AreDataIn message p len rtype class × IsRdata rtype class (take (p + len) message) p it

-- They are such data, and the field with `index` fields before it is this one.
abbrev pub HasField : List ℕ → ℕ → ℕ → ℕ → ℕ → ℕ → Field → Type 0
HasField message p len rtype class index it =
    (all : Rdata) × ReadsData message p len rtype class all × IsField all index it

-- The number of its kind, where it begins and ends, and the number that it is, or 0, were given.
pub record TellsField (it : Field) (kind begin end number : ℕ) : Type 0 where
  pub kind_is : kind ≡ kind_number (field_kind it)
  pub begins : begin ≡ field_begin it
  pub ends : end ≡ field_after it
  pub number_is : number
      ≡ unwrap_or (number_in (field_kind it) (field_message it) (field_begin it)) 0

-- The field with `index` fields before it was given (0). Or there are no more than `index` fields (27), or the octets
-- aren't such data.
abbrev pub GivesDataField : List ℕ → ℕ → ℕ → ℕ → ℕ → ℕ → ℕ → ℕ → ℕ → ℕ → ℕ → Type 0
GivesDataField message p len rtype class index status kind begin end number =
    ((status ≡ 0) × (it : Field) × HasField message p len rtype class index it
    × TellsField it kind begin end number)
    ⊎ ((status ≡ 27) × AreDataIn message p len rtype class
    × (length (known_fields rtype class) ≤ index))
    ⊎ ((why : DataFault) × AreNoDataIn message p len rtype class why × (status ≡ data_number why))
