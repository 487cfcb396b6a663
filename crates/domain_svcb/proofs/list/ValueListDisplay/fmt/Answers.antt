use Rattle.std.proofs.Common.{refl}
use Rattle.domain_svcb.specs.Lists.{after_comma}
use Rattle.domain_svcb.specs.ListViews.{item_text}
use Rattle.domain_svcb.proofs.Showing.{shown_item}
use Rattle.domain_svcb.proofs.list.ValueListDisplay.fmt.Goals as goal

pub loop-item-preserved : goal.loop-item-preserved
loop-item-preserved g c plain =
    let m = c.loop-item.invariant plain in
    shown_item g.W.Write.write_str_gives after_comma _ _ _ _ _ _ (item_text c.in-Some-next_item.item) m c.in-Some-next_item.ensures (c.in_ok-write-2.ensures.writes m.wrote.plain refl)
