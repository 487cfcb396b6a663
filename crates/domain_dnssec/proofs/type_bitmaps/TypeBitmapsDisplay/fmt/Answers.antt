use Rattle.std.proofs.Common.{refl}
use Rattle.domain_rdata.specs.Rtypes.{rtype_number}
use Rattle.domain_dnssec.proofs.TypesShowing.{type_more}
use Rattle.domain_dnssec.proofs.type_bitmaps.TypeBitmapsDisplay.fmt.Goals as goal

pub loop-rtype-preserved : goal.loop-rtype-preserved
loop-rtype-preserved g c plain =
    let m = c.loop-rtype.invariant plain in
    type_more g.W.Write.write_str_gives _ _ _ _ _ _ (rtype_number c.in-Some-next.rtype) m c.in-Some-next.ensures.steps (c.in_ok-write-2.ensures.writes m.wrote.plain refl)
