-- Data that was composed and data that is read, type by type: the same numbers, addresses, strings and octets, and the
-- same names, with their case or ignoring it. `labels` maps a name that was composed to its labels, as `N.labels`
-- does.
use Rattle.std.specs.Prelude.{◌≡◌, ℕ, List}
use Rattle.octseq.specs.declared.octets.Octets.{Ghosts}
use Rattle.domain_label.specs.Lowercase.{lowercase_labels}
use Rattle.domain_wire.specs.Addresses.{ipv4_octets, ipv6_octets}
use Rattle.domain_wire.specs.declared.net.Ipv4Addr.{Ipv4Addr}
use Rattle.domain_wire.specs.declared.net.Ipv6Addr.{Ipv6Addr}
use Rattle.domain_parsed.specs.ParsedNames.{parsed_labels}
use Rattle.domain_parsed.specs.declared.parsed.ParsedName.{ParsedName}
use Rattle.domain_rdata.specs.Rtypes.{rtype_number}
use Rattle.domain_rdata.specs.Unknown.{data_octets}
use Rattle.domain_rdata.specs.declared.unknown.UnknownRecordData.{UnknownRecordData}
use Rattle.domain_fields.specs.declared.name_field.NameField.{NameField}
use Rattle.domain_fields.specs.declared.name_field.UncompressedNameField.{UncompressedNameField}
use Rattle.domain_fields.specs.declared.sequence.Sequence.{Sequence}
use Rattle.domain_strings.specs.TagViews.{tag_octets}
use Rattle.domain_strings.specs.Views.{char_octets, last_octets}
use Rattle.domain_strings.specs.declared.char_string.CharString.{CharString}
use Rattle.domain_dnssec.specs.BitmapViews.{bitmaps_blocks}
use Rattle.domain_txt.specs.Txts.{txt_strings}
use Rattle.domain_txt.specs.declared.txt.Txt.{Txt}
use Rattle.domain_svcb.specs.ParamsViews.{params_of}
use Rattle.domain_svcb.specs.ServiceViews.{service_fields}
use Rattle.domain_svcb.specs.declared.params.SvcParams.{SvcParams}
use Rattle.domain_svcb.specs.declared.service.ServiceData.{ServiceData}
use Rattle.domain_data.specs.declared.fields.FieldsData.{FieldsData}
use Rattle.domain_data.specs.HostFields.{SoaData, soa_mname, soa_rname, soa_serial, soa_refresh, soa_retry, soa_expire, soa_minimum, SrvData, srv_priority, srv_weight, srv_port, srv_target}
use Rattle.domain_data.specs.KeyFields.{DnskeyData, dnskey_flags, dnskey_protocol, dnskey_algorithm, dnskey_public_key, SshfpData, sshfp_algorithm, sshfp_fp_type, sshfp_fingerprint}
use Rattle.domain_data.specs.KeyFields.{TlsaData, tlsa_usage, tlsa_selector, tlsa_matching_type, tlsa_association, CaaData, caa_flags, caa_tag, caa_value}
use Rattle.domain_data.specs.SignatureFields.{RrsigData, rrsig_type_covered, rrsig_algorithm, rrsig_label_count, rrsig_original_ttl, rrsig_expiration, rrsig_inception, rrsig_key_tag, rrsig_signer_name, rrsig_signature, NsecData, nsec_next_name, nsec_types}
use Rattle.domain_data.specs.Views.{fields_of}

-- how a name that was composed and one that is read compare, by their labels
abbrev pub NameRelation : Type 1
NameRelation = List (List ℕ) → List (List ℕ) → Type 0

-- A name that is read has the labels of the one that was composed, ignoring ASCII case (RFC 1035, 2.3.3).
abbrev pub IgnoringCase : NameRelation
IgnoringCase composed read = lowercase_labels read ≡ lowercase_labels composed

-- It has them with their case.
abbrev pub WithCase : NameRelation
WithCase composed read = read ≡ composed

-- A: the same address.
abbrev pub SameIpv4 : {t : ℕ} → FieldsData t Ipv4Addr → FieldsData t Ipv4Addr → Type 0
SameIpv4 it read = ipv4_octets (fields_of read) ≡ ipv4_octets (fields_of it)

-- AAAA: the same address.
abbrev pub SameIpv6 : {t : ℕ} → FieldsData t Ipv6Addr → FieldsData t Ipv6Addr → Type 0
SameIpv6 it read = ipv6_octets (fields_of read) ≡ ipv6_octets (fields_of it)

-- CNAME, NS, PTR, MB, MD, MF, MG and MR: the same name.
abbrev pub SameName : {t : ℕ} {N O : Type 0} {g : Ghosts O} → NameRelation → (N → List (List ℕ)) → FieldsData t (NameField N) → FieldsData t (NameField (ParsedName O g)) → Type 0
SameName Names labels it read = Names (labels (fields_of it).name) (parsed_labels (fields_of read).name)

-- DNAME: the same name.
abbrev pub SameWholeName : {t : ℕ} {N O : Type 0} {g : Ghosts O} → NameRelation → (N → List (List ℕ)) → FieldsData t (UncompressedNameField N) → FieldsData t (UncompressedNameField (ParsedName O g)) → Type 0
SameWholeName Names labels it read = Names (labels (fields_of it).name) (parsed_labels (fields_of read).name)

-- MX: the same preference and exchange.
abbrev pub SameMx : {t : ℕ} {N O : Type 0} {g : Ghosts O} → NameRelation → (N → List (List ℕ)) → FieldsData t (Sequence ℕ (NameField N)) → FieldsData t (Sequence ℕ (NameField (ParsedName O g))) → Type 0
SameMx Names labels it read =
    ((fields_of read).first ≡ (fields_of it).first) × Names (labels (fields_of it).rest.name) (parsed_labels (fields_of read).rest.name)

-- AFSDB, RT and KX: the same number and host.
abbrev pub SameHost : {t : ℕ} {N O : Type 0} {g : Ghosts O} → NameRelation → (N → List (List ℕ)) → FieldsData t (Sequence ℕ (UncompressedNameField N)) → FieldsData t (Sequence ℕ (UncompressedNameField (ParsedName O g))) → Type 0
SameHost Names labels it read =
    ((fields_of read).first ≡ (fields_of it).first) × Names (labels (fields_of it).rest.name) (parsed_labels (fields_of read).rest.name)

-- SRV: the same priority, weight, port and target.
abbrev pub SameSrv : {t : ℕ} {N O : Type 0} {g : Ghosts O} → NameRelation → (N → List (List ℕ)) → SrvData t N → SrvData t (ParsedName O g) → Type 0
SameSrv Names labels it read =
    (srv_priority read ≡ srv_priority it) × ((srv_weight read ≡ srv_weight it) × ((srv_port read ≡ srv_port it)
    × Names (labels (srv_target it)) (parsed_labels (srv_target read))))

-- SOA: the same names and the same numbers.
abbrev pub SameSoa : {t : ℕ} {N O : Type 0} {g : Ghosts O} → NameRelation → (N → List (List ℕ)) → SoaData t N → SoaData t (ParsedName O g) → Type 0
SameSoa Names labels it read =
    Names (labels (soa_mname it)) (parsed_labels (soa_mname read)) × (Names (labels (soa_rname it)) (parsed_labels (soa_rname read))
    × ((soa_serial read ≡ soa_serial it) × ((soa_refresh read ≡ soa_refresh it) × ((soa_retry read ≡ soa_retry it)
    × ((soa_expire read ≡ soa_expire it) × (soa_minimum read ≡ soa_minimum it))))))

-- MINFO: the same mailboxes.
abbrev pub SameMinfo : {t : ℕ} {N O : Type 0} {g : Ghosts O} → NameRelation → (N → List (List ℕ)) → FieldsData t (Sequence (NameField N) (NameField N)) → FieldsData t (Sequence (NameField (ParsedName O g)) (NameField (ParsedName O g))) → Type 0
SameMinfo Names labels it read =
    Names (labels (fields_of it).first.name) (parsed_labels (fields_of read).first.name)
    × Names (labels (fields_of it).rest.name) (parsed_labels (fields_of read).rest.name)

-- RP: the same names.
abbrev pub SameRp : {t : ℕ} {N O : Type 0} {g : Ghosts O} → NameRelation → (N → List (List ℕ)) → FieldsData t (Sequence (UncompressedNameField N) (UncompressedNameField N)) → FieldsData t (Sequence (UncompressedNameField (ParsedName O g)) (UncompressedNameField (ParsedName O g))) → Type 0
SameRp Names labels it read =
    Names (labels (fields_of it).first.name) (parsed_labels (fields_of read).first.name)
    × Names (labels (fields_of it).rest.name) (parsed_labels (fields_of read).rest.name)

-- PX: the same preference and names.
abbrev pub SamePx : {t : ℕ} {N O : Type 0} {g : Ghosts O} → NameRelation → (N → List (List ℕ)) → FieldsData t (Sequence ℕ (Sequence (UncompressedNameField N) (UncompressedNameField N))) → FieldsData t (Sequence ℕ (Sequence (UncompressedNameField (ParsedName O g)) (UncompressedNameField (ParsedName O g)))) → Type 0
SamePx Names labels it read =
    ((fields_of read).first ≡ (fields_of it).first)
    × (Names (labels (fields_of it).rest.first.name) (parsed_labels (fields_of read).rest.first.name)
    × Names (labels (fields_of it).rest.rest.name) (parsed_labels (fields_of read).rest.rest.name))

-- HINFO: the same strings.
abbrev pub SameHinfo : {t : ℕ} {O P : Type 0} {g : Ghosts O} {h : Ghosts P} → FieldsData t (Sequence (CharString O g) (CharString O g)) → FieldsData t (Sequence (CharString P h) (CharString P h)) → Type 0
SameHinfo it read =
    (char_octets (fields_of read).first ≡ char_octets (fields_of it).first)
    × (char_octets (fields_of read).rest ≡ char_octets (fields_of it).rest)

-- two numbers, three strings and a name (RFC 3403, 4.1)
abbrev pub NaptrData : ℕ → (O : Type 0) → Ghosts O → Type 0 → Type 0
NaptrData t O g N = FieldsData t (Sequence ℕ (Sequence ℕ (Sequence (CharString O g) (Sequence (CharString O g) (Sequence (CharString O g) (UncompressedNameField N))))))

-- NAPTR: the same numbers, strings and replacement.
abbrev pub SameNaptr : {t : ℕ} {O P N Q : Type 0} {g : Ghosts O} {h : Ghosts P} {k : Ghosts Q} → NameRelation → (N → List (List ℕ)) → NaptrData t O g N → NaptrData t P h (ParsedName Q k) → Type 0
SameNaptr Names labels it read =
    ((fields_of read).first ≡ (fields_of it).first) × (((fields_of read).rest.first ≡ (fields_of it).rest.first)
    × ((char_octets (fields_of read).rest.rest.first ≡ char_octets (fields_of it).rest.rest.first)
    × ((char_octets (fields_of read).rest.rest.rest.first ≡ char_octets (fields_of it).rest.rest.rest.first)
    × ((char_octets (fields_of read).rest.rest.rest.rest.first ≡ char_octets (fields_of it).rest.rest.rest.rest.first)
    × Names (labels (fields_of it).rest.rest.rest.rest.rest.name) (parsed_labels (fields_of read).rest.rest.rest.rest.rest.name)))))

-- SSHFP: the same numbers and fingerprint.
abbrev pub SameSshfp : {t text : ℕ} {O P : Type 0} {g : Ghosts O} {h : Ghosts P} → SshfpData t text O g → SshfpData t text P h → Type 0
SameSshfp it read =
    (sshfp_algorithm read ≡ sshfp_algorithm it) × ((sshfp_fp_type read ≡ sshfp_fp_type it)
    × (last_octets (sshfp_fingerprint read) ≡ last_octets (sshfp_fingerprint it)))

-- DNSKEY, and DS, whose fields are the same: the same numbers and octets.
abbrev pub SameKey : {t text : ℕ} {O P : Type 0} {g : Ghosts O} {h : Ghosts P} → DnskeyData t text O g → DnskeyData t text P h → Type 0
SameKey it read =
    (dnskey_flags read ≡ dnskey_flags it) × ((dnskey_protocol read ≡ dnskey_protocol it)
    × ((dnskey_algorithm read ≡ dnskey_algorithm it) × (last_octets (dnskey_public_key read) ≡ last_octets (dnskey_public_key it))))

-- TLSA: the same numbers and octets.
abbrev pub SameTlsa : {t text : ℕ} {O P : Type 0} {g : Ghosts O} {h : Ghosts P} → TlsaData t text O g → TlsaData t text P h → Type 0
SameTlsa it read =
    (tlsa_usage read ≡ tlsa_usage it) × ((tlsa_selector read ≡ tlsa_selector it)
    × ((tlsa_matching_type read ≡ tlsa_matching_type it) × (last_octets (tlsa_association read) ≡ last_octets (tlsa_association it))))

-- CAA: the same flags, tag and value.
abbrev pub SameCaa : {t text : ℕ} {O P : Type 0} {g : Ghosts O} {h : Ghosts P} → CaaData t text O g → CaaData t text P h → Type 0
SameCaa it read =
    (caa_flags read ≡ caa_flags it) × ((tag_octets (caa_tag read) ≡ tag_octets (caa_tag it))
    × (last_octets (caa_value read) ≡ last_octets (caa_value it)))

-- RRSIG: the same type, numbers, times, signer and signature.
abbrev pub SameRrsig : {t text : ℕ} {O P N Q : Type 0} {g : Ghosts O} {h : Ghosts P} {k : Ghosts Q} → NameRelation → (N → List (List ℕ)) → RrsigData t text O g N → RrsigData t text P h (ParsedName Q k) → Type 0
SameRrsig Names labels it read =
    (rtype_number (rrsig_type_covered read) ≡ rtype_number (rrsig_type_covered it)) × ((rrsig_algorithm read ≡ rrsig_algorithm it)
    × ((rrsig_label_count read ≡ rrsig_label_count it) × ((rrsig_original_ttl read ≡ rrsig_original_ttl it)
    × ((rrsig_expiration read ≡ rrsig_expiration it) × ((rrsig_inception read ≡ rrsig_inception it)
    × ((rrsig_key_tag read ≡ rrsig_key_tag it) × (Names (labels (rrsig_signer_name it)) (parsed_labels (rrsig_signer_name read))
    × (last_octets (rrsig_signature read) ≡ last_octets (rrsig_signature it)))))))))

-- NSEC: the same next name and blocks of types.
abbrev pub SameNsec : {t : ℕ} {O P N Q : Type 0} {g : Ghosts O} {h : Ghosts P} {k : Ghosts Q} → NameRelation → (N → List (List ℕ)) → NsecData t O g N → NsecData t P h (ParsedName Q k) → Type 0
SameNsec Names labels it read =
    Names (labels (nsec_next_name it)) (parsed_labels (nsec_next_name read)) × (bitmaps_blocks (nsec_types read) ≡ bitmaps_blocks (nsec_types it))

-- a priority, a target name and parameters (RFC 9460, 2.2)
abbrev pub SvcbData : ℕ → (O : Type 0) → Ghosts O → Type 0 → Type 0
SvcbData t O g N = ServiceData t (Sequence ℕ (Sequence (UncompressedNameField N) (SvcParams O g)))

-- SVCB and HTTPS: the same priority, target and parameters.
abbrev pub SameService : {t : ℕ} {O P N Q : Type 0} {g : Ghosts O} {h : Ghosts P} {k : Ghosts Q} → NameRelation → (N → List (List ℕ)) → SvcbData t O g N → SvcbData t P h (ParsedName Q k) → Type 0
SameService Names labels it read =
    ((service_fields read).first ≡ (service_fields it).first)
    × (Names (labels (service_fields it).rest.first.name) (parsed_labels (service_fields read).rest.first.name)
    × (params_of (service_fields read).rest.rest ≡ params_of (service_fields it).rest.rest))

-- TXT: the same strings.
abbrev pub SameTxt : {O P : Type 0} {g : Ghosts O} {h : Ghosts P} → Txt O g → Txt P h → Type 0
SameTxt it read = txt_strings read ≡ txt_strings it

-- Data of any type: the same octets.
abbrev pub SameUnknown : {O P : Type 0} {g : Ghosts O} {h : Ghosts P} → UnknownRecordData O g → UnknownRecordData P h → Type 0
SameUnknown it read = data_octets read ≡ data_octets it
