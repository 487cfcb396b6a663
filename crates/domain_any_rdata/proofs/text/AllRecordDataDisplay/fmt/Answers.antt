use Rattle.std.proofs.Common.{refl}
use Rattle.domain_any_rdata.proofs.Named.{part_taken}
use Rattle.domain_any_rdata.proofs.Telling.{told_more}
use Rattle.domain_any_rdata.proofs.text.AllRecordDataDisplay.fmt.Goals as goal

pub field-preserved : goal.field-preserved
field-preserved g c plain =
    let still = c.field.invariant plain in
    let taken = part_taken c.field.fields c.in-Some.field c.next.new.self c.in-Some.ensures.steps in
    told_more g.W.Write.write_str_gives _ _ _ _ _ _ _ _ _ _ _ still c.in-Some.ensures.steps.kinds taken (c.in_ok-write.ensures.writes still.moved.wrote.plain refl)
