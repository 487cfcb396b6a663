use Rattle.std.proofs.Common.{rules, ◌∙◌}
use Rattle.domain_label.specs.Labels.{label_octets}
use Rattle.domain_list.proofs.Shown.{more_dotted, less_room, label_room, dotted_some, dotted_none}
use Rattle.domain_list.proofs.dotted.push_dotted.Goals as goal

pub push_with_dot-requires : goal.push_with_dot-requires
push_with_dot-requires g c = record {
  room = label_room _ (label_octets c.in-Some.label) (g.I.LabelIterator.left c.loop-label.labels) (g.I.LabelIterator.left c.next.new.self) c.loop-label.invariant.room (search rules);
  ascii = c.loop-label.invariant.ascii;
}

pub loop-label-preserved : goal.loop-label-preserved
loop-label-preserved g c = record {
  can = search rules;
  ends = search rules;
  text = more_dotted _ _ (label_octets c.in-Some.label) _ (g.I.LabelIterator.left c.loop-label.labels) (g.I.LabelIterator.left c.next.new.self) c.loop-label.invariant.text (search rules) c.push_with_dot.ensures.text;
  room = less_room _ _ (label_octets c.in-Some.label) (g.I.LabelIterator.left c.loop-label.labels) (g.I.LabelIterator.left c.next.new.self) c.loop-label.invariant.room (search rules) c.push_with_dot.ensures.size;
  ascii = c.push_with_dot.ensures.ascii;
}

pub returns-then-is_empty-clause-text : goal.returns-then-is_empty-clause-text
returns-then-is_empty-clause-text g c =
    c.push.ensures.items ∙ dotted_none _ (g.I.LabelIterator.left c.loop-label.labels) (g.I.LabelIterator.left c.args.labels) c.loop-label.invariant.text (search rules) (search rules)

pub returns-else-is_empty-clause-text : goal.returns-else-is_empty-clause-text
returns-else-is_empty-clause-text g c =
    dotted_some _ (g.I.LabelIterator.left c.loop-label.labels) (g.I.LabelIterator.left c.args.labels) c.loop-label.invariant.text (search rules) (search rules)
