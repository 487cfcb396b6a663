use Rattle.std.proofs.Common.{◌∙◌}
use Rattle.domain_dnssec.proofs.type_bitmaps.TypeBitmaps.iter.Goals as goal

pub returns : goal.returns
returns g c =
    let has = c.args.self.now.blocks in
    c.new.ensures (has.0, c.as_slice.ensures.octets ∙ has.1, has.2)
