-- The numbers of data have as many bits as they have on the wire: each value of the types of Rust does.
use Rattle.std.specs.Prelude.{ℕ, ◌<◌, ◌^◌, ⊤}
use Rattle.octseq.specs.declared.octets.Octets.{Ghosts}
use Rattle.domain_rdata.specs.Rtypes.{rtype_number}
use Rattle.domain_fields.specs.declared.sequence.Sequence.{Sequence}
use Rattle.domain_svcb.specs.ServiceViews.{service_fields}
use Rattle.domain_svcb.specs.declared.service.ServiceData.{ServiceData}
use Rattle.domain_data.specs.declared.fields.FieldsData.{FieldsData}
use Rattle.domain_data.specs.HostFields.{SoaData, soa_serial, soa_refresh, soa_retry, soa_expire, soa_minimum, SrvData, srv_priority, srv_weight, srv_port}
use Rattle.domain_data.specs.KeyFields.{DnskeyData, dnskey_flags, dnskey_protocol, dnskey_algorithm, SshfpData, sshfp_algorithm, sshfp_fp_type}
use Rattle.domain_data.specs.KeyFields.{TlsaData, tlsa_usage, tlsa_selector, tlsa_matching_type, CaaData, caa_flags}
use Rattle.domain_data.specs.SignatureFields.{RrsigData, rrsig_type_covered, rrsig_algorithm, rrsig_label_count, rrsig_original_ttl, rrsig_expiration, rrsig_inception, rrsig_key_tag}
use Rattle.domain_data.specs.Views.{fields_of}

-- no number
abbrev pub HasNoNumber : {D : Type 0} → D → Type 0
HasNoNumber it = ⊤

-- MX, AFSDB, RT, KX and PX: one of 16 bits
abbrev pub FitsNumber : {t : ℕ} {Rest : Type 0} → FieldsData t (Sequence ℕ Rest) → Type 0
FitsNumber it = (fields_of it).first < 2 ^ 16

-- NAPTR: two of 16 bits
abbrev pub FitsNaptr : {t : ℕ} {Rest : Type 0} → FieldsData t (Sequence ℕ (Sequence ℕ Rest)) → Type 0
FitsNaptr it = ((fields_of it).first < 2 ^ 16) × ((fields_of it).rest.first < 2 ^ 16)

-- SRV: three of 16 bits
abbrev pub FitsSrv : {t : ℕ} {N : Type 0} → SrvData t N → Type 0
FitsSrv it = (srv_priority it < 2 ^ 16) × (srv_weight it < 2 ^ 16) × (srv_port it < 2 ^ 16)

-- SOA: five of 32 bits
abbrev pub FitsSoa : {t : ℕ} {N : Type 0} → SoaData t N → Type 0
FitsSoa it = (soa_serial it < 2 ^ 32) × (soa_refresh it < 2 ^ 32) × (soa_retry it < 2 ^ 32) × (soa_expire it < 2 ^ 32) × (soa_minimum it < 2 ^ 32)

-- SSHFP: two of 8 bits
abbrev pub FitsSshfp : {t text : ℕ} {O : Type 0} {g : Ghosts O} → SshfpData t text O g → Type 0
FitsSshfp it = (sshfp_algorithm it < 2 ^ 8) × (sshfp_fp_type it < 2 ^ 8)

-- DS and DNSKEY: one of 16 bits and two of 8 bits
abbrev pub FitsKey : {t text : ℕ} {O : Type 0} {g : Ghosts O} → DnskeyData t text O g → Type 0
FitsKey it = (dnskey_flags it < 2 ^ 16) × (dnskey_protocol it < 2 ^ 8) × (dnskey_algorithm it < 2 ^ 8)

-- TLSA: three of 8 bits
abbrev pub FitsTlsa : {t text : ℕ} {O : Type 0} {g : Ghosts O} → TlsaData t text O g → Type 0
FitsTlsa it = (tlsa_usage it < 2 ^ 8) × (tlsa_selector it < 2 ^ 8) × (tlsa_matching_type it < 2 ^ 8)

-- CAA: one of 8 bits
abbrev pub FitsCaa : {t text : ℕ} {O : Type 0} {g : Ghosts O} → CaaData t text O g → Type 0
FitsCaa it = caa_flags it < 2 ^ 8

-- RRSIG: a type and a key tag of 16 bits, two of 8 bits, and three of 32 bits
abbrev pub FitsRrsig : {t text : ℕ} {O N : Type 0} {g : Ghosts O} → RrsigData t text O g N → Type 0
FitsRrsig it =
    (rtype_number (rrsig_type_covered it) < 2 ^ 16) × (rrsig_algorithm it < 2 ^ 8) × (rrsig_label_count it < 2 ^ 8)
    × (rrsig_original_ttl it < 2 ^ 32) × (rrsig_expiration it < 2 ^ 32) × (rrsig_inception it < 2 ^ 32) × (rrsig_key_tag it < 2 ^ 16)

-- SVCB and HTTPS: one of 16 bits
abbrev pub FitsService : {t : ℕ} {Rest : Type 0} → ServiceData t (Sequence ℕ Rest) → Type 0
FitsService it = (service_fields it).first < 2 ^ 16
