use Rattle.std.specs.Prelude.{refl}
use Rattle.domain_txt.specs.TxtReading.{NoText, TextAt}
use Rattle.domain_txt.specs.TxtReadingLaws.{text_read_back, text_reading}
use Rattle.domain_txt.specs.Txts.{txt_octets}
use Rattle.domain_data_laws.proofs.Reading.{read_as}
use Rattle.domain_data_laws.proofs.text.txt_laws.Goals as goal

pub returns-clause-read : goal.returns-clause-read
returns-clause-read g c = λ it fits.
    (refl, read_as _ TextAt NoText _ _ text_reading (text_read_back (txt_octets {g = g.Octs.Octets} it) it.strings it.some it.few))
