-- The fields of SOA and SRV data by their names.
use Rattle.std.specs.Prelude.{ℕ}
use Rattle.domain_fields.specs.declared.name_field.NameField.{NameField}
use Rattle.domain_fields.specs.declared.name_field.UncompressedNameField.{UncompressedNameField}
use Rattle.domain_fields.specs.declared.sequence.Sequence.{Sequence}
use Rattle.domain_data.specs.declared.fields.FieldsData.{FieldsData}
use Rattle.domain_data.specs.Views.{fields_of}

-- two names and five numbers (RFC 1035, 3.3.13)
abbrev pub SoaData : ℕ → Type 0 → Type 0
SoaData t N = FieldsData t (Sequence (NameField N) (Sequence (NameField N) (Sequence ℕ (Sequence ℕ (Sequence ℕ (Sequence ℕ ℕ))))))

-- the name of the server that the zone comes from
abbrev pub soa_mname : {t : ℕ} {N : Type 0} → SoaData t N → N
soa_mname it = (fields_of it).first.name

-- the mailbox of who is responsible
abbrev pub soa_rname : {t : ℕ} {N : Type 0} → SoaData t N → N
soa_rname it = (fields_of it).rest.first.name

-- the version of the zone
abbrev pub soa_serial : {t : ℕ} {N : Type 0} → SoaData t N → ℕ
soa_serial it = (fields_of it).rest.rest.first

-- after how long another server looks for a new version
abbrev pub soa_refresh : {t : ℕ} {N : Type 0} → SoaData t N → ℕ
soa_refresh it = (fields_of it).rest.rest.rest.first

-- after how long it tries again
abbrev pub soa_retry : {t : ℕ} {N : Type 0} → SoaData t N → ℕ
soa_retry it = (fields_of it).rest.rest.rest.rest.first

-- after how long it no longer answers
abbrev pub soa_expire : {t : ℕ} {N : Type 0} → SoaData t N → ℕ
soa_expire it = (fields_of it).rest.rest.rest.rest.rest.first

-- for how long a negative answer may be kept (RFC 2308, 4)
abbrev pub soa_minimum : {t : ℕ} {N : Type 0} → SoaData t N → ℕ
soa_minimum it = (fields_of it).rest.rest.rest.rest.rest.rest

-- three numbers and a name (RFC 2782)
abbrev pub SrvData : ℕ → Type 0 → Type 0
SrvData t N = FieldsData t (Sequence ℕ (Sequence ℕ (Sequence ℕ (UncompressedNameField N))))

-- the priority
abbrev pub srv_priority : {t : ℕ} {N : Type 0} → SrvData t N → ℕ
srv_priority it = (fields_of it).first

-- the weight among those of the same priority
abbrev pub srv_weight : {t : ℕ} {N : Type 0} → SrvData t N → ℕ
srv_weight it = (fields_of it).rest.first

-- the port
abbrev pub srv_port : {t : ℕ} {N : Type 0} → SrvData t N → ℕ
srv_port it = (fields_of it).rest.rest.first

-- the name of the host
abbrev pub srv_target : {t : ℕ} {N : Type 0} → SrvData t N → N
srv_target it = (fields_of it).rest.rest.rest.name
