use Rattle.domain_rdata.specs.AnyData.{IsAllThatIsLeft}
use Rattle.domain_fields.specs.ReadBack.{left_read_back}
use Rattle.domain_fields.specs.Sequences.{BothAt}
use Rattle.domain_strings.specs.Views.{last_octets}
use Rattle.domain_data.specs.KeyFields.{dnskey_algorithm, dnskey_flags, dnskey_protocol, dnskey_public_key}
use Rattle.domain_data.specs.OctetShapes.{FingerprintAt, KeyAt, NoKey, Number8At, key_data}
use Rattle.domain_data_laws.proofs.Fields.{number16_before, number8_before}
use Rattle.domain_data_laws.proofs.Reading.{fields_read_as, same_number}
use Rattle.domain_data_laws.proofs.keys.key_laws.Goals as goal

pub returns-clause-read : goal.returns-clause-read
returns-clause-read g c = λ it fits.
    let octets = left_read_back (last_octets {g = g.Octs.Octets} (dnskey_public_key it)) (dnskey_public_key it).few in
    let rest = number8_before _ (BothAt Number8At IsAllThatIsLeft) _ (dnskey_protocol it) fits.1 (number8_before _ IsAllThatIsLeft _ (dnskey_algorithm it) fits.2 octets) in
    (same_number _, fields_read_as _ KeyAt NoKey _ _ key_data (number16_before _ FingerprintAt _ (dnskey_flags it) fits.0 rest))
