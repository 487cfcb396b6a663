use Rattle.domain_dnssec.specs.BitmapReading.{bitmaps_read_back}
use Rattle.domain_dnssec.proofs.type_bitmaps.TypeBitmapsReadBackLast.reads_back_last.Goals as goal

pub returns : goal.returns
returns g c =
    let it = c.args.self.now in
    bitmaps_read_back (g.Octs.Octets.octets it.octets) it.blocks it.some it.few
