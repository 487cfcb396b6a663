use Rattle.std.proofs.Common.{◌++◌}
use Rattle.std.specs.Fmt.{IsPlainFormatter}
use Rattle.std.specs.List.{flat_map}
use Rattle.std.specs.Str.{IsAscii}
use Rattle.domain_label.specs.Text.{dot_before}
use Rattle.domain_list.specs.Moving.{HasMoved}
use Rattle.domain_list.proofs.joined.JoinedLabelsDisplay.fmt.Given as goal

abbrev pub invariant-loop-label : goal.invariant-loop-label
invariant-loop-label g l = record {
  can : (goal.iterator-loop-label g).can_next l.labels;
  ends : (goal.iterator-loop-label g).is_finite l.labels;
  ascii : IsAscii l.text.items;
  moved : IsPlainFormatter l.initial.f → HasMoved g.W.Write.write_str_gives l.initial.f (l.initial.text.items ++ flat_map dot_before (g.I.LabelIterator.left l.initial.labels)) (l.text.items ++ flat_map dot_before (g.I.LabelIterator.left l.labels)) l.f;
}
