-- The fields of RRSIG and NSEC data by their names.
use Rattle.std.specs.Prelude.{ℕ}
use Rattle.octseq.specs.declared.octets.Octets.{Ghosts}
use Rattle.domain_rdata.specs.declared.rtype.Rtype.{Rtype}
use Rattle.domain_fields.specs.declared.name_field.UncompressedNameField.{UncompressedNameField}
use Rattle.domain_fields.specs.declared.sequence.Sequence.{Sequence}
use Rattle.domain_strings.specs.declared.last_octets.LastOctets.{LastOctets}
use Rattle.domain_dnssec.specs.declared.rtype_field.RtypeField.{RtypeField}
use Rattle.domain_dnssec.specs.declared.time_field.TimeField.{TimeField}
use Rattle.domain_dnssec.specs.declared.type_bitmaps.TypeBitmaps.{TypeBitmaps}
use Rattle.domain_data.specs.declared.fields.FieldsData.{FieldsData}
use Rattle.domain_data.specs.Views.{fields_of}

-- a type, three numbers, two times, a number, a name and a signature (RFC 4034, 3.1)
abbrev pub RrsigData : ℕ → ℕ → (O : Type 0) → Ghosts O → Type 0 → Type 0
RrsigData t text O g N = FieldsData t (Sequence RtypeField (Sequence ℕ (Sequence ℕ (Sequence ℕ (Sequence TimeField (Sequence TimeField (Sequence ℕ (Sequence (UncompressedNameField N) (LastOctets text O g)))))))))

-- the type of the records that are signed (RFC 4034, 3.1.1)
abbrev pub rrsig_type_covered : {t text : ℕ} {O N : Type 0} {g : Ghosts O} → RrsigData t text O g N → Rtype
rrsig_type_covered it = (fields_of it).first.rtype

-- the algorithm that the signature was made by (RFC 4034, 3.1.2)
abbrev pub rrsig_algorithm : {t text : ℕ} {O N : Type 0} {g : Ghosts O} → RrsigData t text O g N → ℕ
rrsig_algorithm it = (fields_of it).rest.first

-- the number of labels of the owner, without the root and without `*` (RFC 4034, 3.1.3)
abbrev pub rrsig_label_count : {t text : ℕ} {O N : Type 0} {g : Ghosts O} → RrsigData t text O g N → ℕ
rrsig_label_count it = (fields_of it).rest.rest.first

-- the TTL of the records in the zone (RFC 4034, 3.1.4)
abbrev pub rrsig_original_ttl : {t text : ℕ} {O N : Type 0} {g : Ghosts O} → RrsigData t text O g N → ℕ
rrsig_original_ttl it = (fields_of it).rest.rest.rest.first

-- until when the signature holds (RFC 4034, 3.1.5)
abbrev pub rrsig_expiration : {t text : ℕ} {O N : Type 0} {g : Ghosts O} → RrsigData t text O g N → ℕ
rrsig_expiration it = (fields_of it).rest.rest.rest.rest.first.seconds

-- from when on it holds (RFC 4034, 3.1.5)
abbrev pub rrsig_inception : {t text : ℕ} {O N : Type 0} {g : Ghosts O} → RrsigData t text O g N → ℕ
rrsig_inception it = (fields_of it).rest.rest.rest.rest.rest.first.seconds

-- the key tag of the DNSKEY record (RFC 4034, 3.1.6)
abbrev pub rrsig_key_tag : {t text : ℕ} {O N : Type 0} {g : Ghosts O} → RrsigData t text O g N → ℕ
rrsig_key_tag it = (fields_of it).rest.rest.rest.rest.rest.rest.first

-- the owner of that record (RFC 4034, 3.1.7)
abbrev pub rrsig_signer_name : {t text : ℕ} {O N : Type 0} {g : Ghosts O} → RrsigData t text O g N → N
rrsig_signer_name it = (fields_of it).rest.rest.rest.rest.rest.rest.rest.first.name

-- the signature (RFC 4034, 3.1.8)
abbrev pub rrsig_signature : {t text : ℕ} {O N : Type 0} {g : Ghosts O} → RrsigData t text O g N → LastOctets text O g
rrsig_signature it = (fields_of it).rest.rest.rest.rest.rest.rest.rest.rest

-- a name and bitmaps of types (RFC 4034, 4.1)
abbrev pub NsecData : ℕ → (O : Type 0) → Ghosts O → Type 0 → Type 0
NsecData t O g N = FieldsData t (Sequence (UncompressedNameField N) (TypeBitmaps O g))

-- the next owner in the canonical order (RFC 4034, 4.1.1)
abbrev pub nsec_next_name : {t : ℕ} {O N : Type 0} {g : Ghosts O} → NsecData t O g N → N
nsec_next_name it = (fields_of it).first.name

-- the types of records that the owner has (RFC 4034, 4.1.2)
abbrev pub nsec_types : {t : ℕ} {O N : Type 0} {g : Ghosts O} → NsecData t O g N → TypeBitmaps O g
nsec_types it = (fields_of it).rest
