use Rattle.std.proofs.Common.{refl}
use Rattle.domain_any_rdata.proofs.Telling.{pairs_taken}
use Rattle.domain_any_rdata.proofs.text.PlainPairsDisplay.fmt.Goals as goal

pub octets-preserved : goal.octets-preserved
octets-preserved g c plain =
    let still = c.octets.invariant plain in
    pairs_taken g.W.Write.write_str_gives _ _ _ _ c.fill.new.self _ _ _ c.fill.ensures.same c.first-octets.ensures still c.skip.ensures (c.in_ok-write.ensures.writes still.wrote.plain refl)
