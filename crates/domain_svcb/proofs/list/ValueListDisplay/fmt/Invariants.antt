use Rattle.std.proofs.Common.{length}
use Rattle.std.specs.Fmt.{IsPlainFormatter}
use Rattle.std.specs.List.{flat_map}
use Rattle.domain_list.specs.Moving.{HasMoved}
use Rattle.domain_svcb.specs.Lists.{item_texts, after_comma, with_commas}
use Rattle.domain_svcb.proofs.list.ValueListDisplay.fmt.Given as goal

abbrev pub invariant-loop-item : goal.invariant-loop-item
invariant-loop-item g l =
    IsPlainFormatter l.fn.f → HasMoved g.W.Write.write_str_gives l.fn.f (with_commas (item_texts l.fn.self.kind l.fn.self.octets.now)) (flat_map after_comma (item_texts l.self.kind l.rest)) l.f

abbrev pub decreases-loop-item : goal.decreases-loop-item
decreases-loop-item g l = length (item_texts l.self.kind l.rest)
