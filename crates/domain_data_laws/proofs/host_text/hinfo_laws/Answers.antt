use Rattle.std.specs.Prelude.{refl}
use Rattle.domain_fields.specs.ReadBack.{last_read_back}
use Rattle.domain_strings.specs.CharStringLaws.{char_string_read_back}
use Rattle.domain_strings.specs.CharStrings.{CharStringAt, counted}
use Rattle.domain_strings.specs.Views.{char_octets}
use Rattle.domain_data.specs.OctetShapes.{NoStrings, StringsAt, strings_data}
use Rattle.domain_data.specs.Views.{fields_of}
use Rattle.domain_data_laws.proofs.Fields.{octets_before}
use Rattle.domain_data_laws.proofs.Reading.{fields_read_as}
use Rattle.domain_data_laws.proofs.host_text.hinfo_laws.Goals as goal

pub returns-clause-read : goal.returns-clause-read
returns-clause-read g c = λ it fits.
    let os = last_read_back _ CharStringAt _ (char_string_read_back (char_octets {g = g.Octs.Octets} ((fields_of it).rest)) ((fields_of it).rest).short) in
    (refl, fields_read_as _ StringsAt NoStrings _ _ strings_data (octets_before (counted (char_octets {g = g.Octs.Octets} ((fields_of it).first))) CharStringAt _ _ CharStringAt _ (char_string_read_back (char_octets {g = g.Octs.Octets} ((fields_of it).first)) ((fields_of it).first).short) os))
