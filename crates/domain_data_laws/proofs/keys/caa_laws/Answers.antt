use Rattle.std.specs.Prelude.{refl}
use Rattle.domain_rdata.specs.AnyData.{IsAllThatIsLeft}
use Rattle.domain_fields.specs.ReadBack.{left_read_back}
use Rattle.domain_fields.specs.Sequences.{BothAt}
use Rattle.domain_strings.specs.CharStrings.{counted}
use Rattle.domain_strings.specs.TagLaws.{tag_read_back}
use Rattle.domain_strings.specs.TagViews.{tag_octets}
use Rattle.domain_strings.specs.Tags.{TagAt}
use Rattle.domain_strings.specs.Views.{last_octets}
use Rattle.domain_data.specs.KeyFields.{caa_flags, caa_tag, caa_value}
use Rattle.domain_data.specs.OctetShapes.{NoProperty, PropertyAt, property_data}
use Rattle.domain_data_laws.proofs.Fields.{number8_before, octets_before}
use Rattle.domain_data_laws.proofs.Reading.{fields_read_as}
use Rattle.domain_data_laws.proofs.keys.caa_laws.Goals as goal

pub returns-clause-read : goal.returns-clause-read
returns-clause-read g c = λ it fits.
    let tag = caa_tag it in
    let octets = left_read_back (last_octets {g = g.Octs.Octets} (caa_value it)) (caa_value it).few in
    let tagged = octets_before (counted (tag_octets {g = g.Octs.Octets} tag)) TagAt _ _ IsAllThatIsLeft _ (tag_read_back (tag_octets {g = g.Octs.Octets} tag) tag.string.short (tag.some, tag.letters)) octets in
    (refl, fields_read_as _ PropertyAt NoProperty _ _ property_data (number8_before _ (BothAt TagAt IsAllThatIsLeft) _ (caa_flags it) fits tagged))
