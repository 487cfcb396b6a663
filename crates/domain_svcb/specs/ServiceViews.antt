-- What contracts see of data of SVCB and of types like it: its fields, the number of its type, and what it is compared
-- by.
use Rattle.std.specs.Prelude.{ℕ, Bool, List}
use Rattle.domain_rdata.specs.Rtypes.{has_lowercase_names}
use Rattle.domain_svcb.specs.declared.service.ServiceData.{ServiceData}

-- the fields of data of the type t (RFC 9460, 2.2)
abbrev pub service_fields : {t : ℕ} {F : Type 0} → ServiceData t F → F
service_fields it = it.fields

-- the number of the type of data (RFC 9460, 14.1)
abbrev pub service_type : {t : ℕ} {F : Type 0} → ServiceData t F → ℕ
service_type {t} it = t

-- What data is compared by: the octets of its canonical form (RFC 4034, 6.2 and 6.3). `octets` are those of its fields
-- with no name compressed, names in lowercase if so.
abbrev pub service_key : {t : ℕ} {F : Type 0} → (F → Bool → List ℕ) → ServiceData t F → List ℕ
service_key {t} octets it = octets (service_fields it) (has_lowercase_names t)
