use Rattle.domain_txt.specs.TxtReadingLaws.{text_read_back}
use Rattle.domain_txt.specs.Txts.{txt_octets}
use Rattle.domain_txt.proofs.read_back.TxtReadBackData.reads_back.Goals as goal

pub returns : goal.returns
returns g c =
    let it = c.args.self.now in
    text_read_back (txt_octets {g = g.Octs.Octets} it) it.strings it.some it.few
