use Rattle.std.specs.Prelude.{refl}
use Rattle.domain_rdata.specs.AnyData.{IsAllThatIsLeft}
use Rattle.domain_fields.specs.ReadBack.{left_read_back}
use Rattle.domain_fields.specs.Sequences.{BothAt}
use Rattle.domain_strings.specs.Views.{last_octets}
use Rattle.domain_data.specs.KeyFields.{sshfp_algorithm, sshfp_fingerprint, sshfp_fp_type}
use Rattle.domain_data.specs.OctetShapes.{FingerprintAt, NoFingerprint, Number8At, fingerprint_data}
use Rattle.domain_data_laws.proofs.Fields.{number8_before}
use Rattle.domain_data_laws.proofs.Reading.{fields_read_as}
use Rattle.domain_data_laws.proofs.keys.sshfp_laws.Goals as goal

pub returns-clause-read : goal.returns-clause-read
returns-clause-read g c = λ it fits.
    let octets = left_read_back (last_octets {g = g.Octs.Octets} (sshfp_fingerprint it)) (sshfp_fingerprint it).few in
    (refl, fields_read_as _ FingerprintAt NoFingerprint _ _ fingerprint_data (number8_before _ (BothAt Number8At IsAllThatIsLeft) _ (sshfp_algorithm it) fits.0 (number8_before _ IsAllThatIsLeft _ (sshfp_fp_type it) fits.1 octets)))
