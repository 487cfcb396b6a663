-- What contracts see of record data: its fields, the number of its type, and what it is compared by.
use Rattle.std.specs.Prelude.{ℕ, Bool, List}
use Rattle.domain_rdata.specs.Rtypes.{has_lowercase_names}
use Rattle.domain_data.specs.declared.fields.FieldsData.{FieldsData}

-- the fields of data of the type t (RFC 1035, 3.3)
abbrev pub fields_of : {t : ℕ} {F : Type 0} → FieldsData t F → F
fields_of it = it.fields

-- the number of the type of data (RFC 1035, 3.2.2)
abbrev pub type_of : {t : ℕ} {F : Type 0} → FieldsData t F → ℕ
type_of {t} it = t

-- What data is compared by: the octets of its canonical form (RFC 4034, 6.2 and 6.3). `octets` are those of its fields
-- with no name compressed, names in lowercase if so.
abbrev pub fields_key : {t : ℕ} {F : Type 0} → (F → Bool → List ℕ) → FieldsData t F → List ℕ
fields_key {t} octets it = octets (fields_of it) (has_lowercase_names t)
