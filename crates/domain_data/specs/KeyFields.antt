-- The fields of DS, SSHFP, DNSKEY, TLSA and CAA data by their names.
use Rattle.std.specs.Prelude.{ℕ}
use Rattle.octseq.specs.declared.octets.Octets.{Ghosts}
use Rattle.domain_fields.specs.declared.sequence.Sequence.{Sequence}
use Rattle.domain_strings.specs.declared.last_octets.LastOctets.{LastOctets}
use Rattle.domain_strings.specs.declared.tag.Tag.{Tag}
use Rattle.domain_data.specs.declared.fields.FieldsData.{FieldsData}
use Rattle.domain_data.specs.Views.{fields_of}

-- three numbers and a digest (RFC 4034, 5.1)
abbrev pub DsData : ℕ → ℕ → (O : Type 0) → Ghosts O → Type 0
DsData t text O g = FieldsData t (Sequence ℕ (Sequence ℕ (Sequence ℕ (LastOctets text O g))))

-- the key tag of the DNSKEY record (RFC 4034, 5.1.1)
abbrev pub ds_key_tag : {t text : ℕ} {O : Type 0} {g : Ghosts O} → DsData t text O g → ℕ
ds_key_tag it = (fields_of it).first

-- the algorithm number of that record (RFC 4034, 5.1.2)
abbrev pub ds_algorithm : {t text : ℕ} {O : Type 0} {g : Ghosts O} → DsData t text O g → ℕ
ds_algorithm it = (fields_of it).rest.first

-- the algorithm that the digest was made by (RFC 4034, 5.1.3)
abbrev pub ds_digest_type : {t text : ℕ} {O : Type 0} {g : Ghosts O} → DsData t text O g → ℕ
ds_digest_type it = (fields_of it).rest.rest.first

-- the digest of that record (RFC 4034, 5.1.4)
abbrev pub ds_digest : {t text : ℕ} {O : Type 0} {g : Ghosts O} → DsData t text O g → LastOctets text O g
ds_digest it = (fields_of it).rest.rest.rest

-- two numbers and a fingerprint (RFC 4255, 3.1)
abbrev pub SshfpData : ℕ → ℕ → (O : Type 0) → Ghosts O → Type 0
SshfpData t text O g = FieldsData t (Sequence ℕ (Sequence ℕ (LastOctets text O g)))

-- the algorithm of the public key (RFC 4255, 3.1.1)
abbrev pub sshfp_algorithm : {t text : ℕ} {O : Type 0} {g : Ghosts O} → SshfpData t text O g → ℕ
sshfp_algorithm it = (fields_of it).first

-- the algorithm that the fingerprint was made by (RFC 4255, 3.1.2)
abbrev pub sshfp_fp_type : {t text : ℕ} {O : Type 0} {g : Ghosts O} → SshfpData t text O g → ℕ
sshfp_fp_type it = (fields_of it).rest.first

-- the fingerprint of the public key (RFC 4255, 3.1.3)
abbrev pub sshfp_fingerprint : {t text : ℕ} {O : Type 0} {g : Ghosts O} → SshfpData t text O g → LastOctets text O g
sshfp_fingerprint it = (fields_of it).rest.rest

-- three numbers and a key (RFC 4034, 2.1)
abbrev pub DnskeyData : ℕ → ℕ → (O : Type 0) → Ghosts O → Type 0
DnskeyData t text O g = FieldsData t (Sequence ℕ (Sequence ℕ (Sequence ℕ (LastOctets text O g))))

-- the flags, of which 256 is the zone key flag, and 1 the secure entry point flag (RFC 4034, 2.1.1)
abbrev pub dnskey_flags : {t text : ℕ} {O : Type 0} {g : Ghosts O} → DnskeyData t text O g → ℕ
dnskey_flags it = (fields_of it).first

-- the protocol, 3 in each valid record (RFC 4034, 2.1.2)
abbrev pub dnskey_protocol : {t text : ℕ} {O : Type 0} {g : Ghosts O} → DnskeyData t text O g → ℕ
dnskey_protocol it = (fields_of it).rest.first

-- the algorithm of the public key (RFC 4034, 2.1.3)
abbrev pub dnskey_algorithm : {t text : ℕ} {O : Type 0} {g : Ghosts O} → DnskeyData t text O g → ℕ
dnskey_algorithm it = (fields_of it).rest.rest.first

-- the public key (RFC 4034, 2.1.4)
abbrev pub dnskey_public_key : {t text : ℕ} {O : Type 0} {g : Ghosts O} → DnskeyData t text O g → LastOctets text O g
dnskey_public_key it = (fields_of it).rest.rest.rest

-- three numbers and what is matched (RFC 6698, 2.1)
abbrev pub TlsaData : ℕ → ℕ → (O : Type 0) → Ghosts O → Type 0
TlsaData t text O g = FieldsData t (Sequence ℕ (Sequence ℕ (Sequence ℕ (LastOctets text O g))))

-- the certificate usage (RFC 6698, 2.1.1)
abbrev pub tlsa_usage : {t text : ℕ} {O : Type 0} {g : Ghosts O} → TlsaData t text O g → ℕ
tlsa_usage it = (fields_of it).first

-- the part of the certificate that is matched (RFC 6698, 2.1.2)
abbrev pub tlsa_selector : {t text : ℕ} {O : Type 0} {g : Ghosts O} → TlsaData t text O g → ℕ
tlsa_selector it = (fields_of it).rest.first

-- how it is matched (RFC 6698, 2.1.3)
abbrev pub tlsa_matching_type : {t text : ℕ} {O : Type 0} {g : Ghosts O} → TlsaData t text O g → ℕ
tlsa_matching_type it = (fields_of it).rest.rest.first

-- the certificate association data, which it is matched with (RFC 6698, 2.1.4)
abbrev pub tlsa_association : {t text : ℕ} {O : Type 0} {g : Ghosts O} → TlsaData t text O g → LastOctets text O g
tlsa_association it = (fields_of it).rest.rest.rest

-- a number, a tag and a value (RFC 8659, 4.1)
abbrev pub CaaData : ℕ → ℕ → (O : Type 0) → Ghosts O → Type 0
CaaData t text O g = FieldsData t (Sequence ℕ (Sequence (Tag O g) (LastOctets text O g)))

-- the flags, of which 128 is the issuer critical flag (RFC 8659, 4.1)
abbrev pub caa_flags : {t text : ℕ} {O : Type 0} {g : Ghosts O} → CaaData t text O g → ℕ
caa_flags it = (fields_of it).first

-- the property tag (RFC 8659, 4.1)
abbrev pub caa_tag : {t text : ℕ} {O : Type 0} {g : Ghosts O} → CaaData t text O g → Tag O g
caa_tag it = (fields_of it).rest.first

-- the property value (RFC 8659, 4.1)
abbrev pub caa_value : {t text : ℕ} {O : Type 0} {g : Ghosts O} → CaaData t text O g → LastOctets text O g
caa_value it = (fields_of it).rest.rest
