use Rattle.std.proofs.Common.{rules, ◌∙◌}
use Rattle.domain_label.specs.Labels.{label_octets}
use Rattle.domain_list.proofs.Shown.{less_room, label_room}
use Rattle.domain_field_text.proofs.Naming.{more_named, named_some, named_none}
use Rattle.domain_field_text.proofs.name.push_name.Goals as goal

pub push_with_dot-requires : goal.push_with_dot-requires
push_with_dot-requires g c = record {
  room = label_room _ (label_octets c.in-Some.label) (g.I.LabelIterator.left c.loop-label.labels) (g.I.LabelIterator.left c.next.new.self) c.loop-label.invariant.room (search rules);
  ascii = c.loop-label.invariant.ascii;
}

pub loop-label-preserved : goal.loop-label-preserved
loop-label-preserved g c = record {
  can = search rules;
  ends = search rules;
  text = more_named _ _ (label_octets c.in-Some.label) _ (g.I.LabelIterator.left c.loop-label.labels) (g.I.LabelIterator.left c.next.new.self) c.loop-label.invariant.text (search rules) c.push_with_dot.ensures.text;
  room = less_room _ _ (label_octets c.in-Some.label) (g.I.LabelIterator.left c.loop-label.labels) (g.I.LabelIterator.left c.next.new.self) c.loop-label.invariant.room (search rules) c.push_with_dot.ensures.size;
  ascii = c.push_with_dot.ensures.ascii;
}

pub returns-then-is_empty-clause-text : goal.returns-then-is_empty-clause-text
returns-then-is_empty-clause-text g c =
    c.push.ensures.items ∙ named_none _ (g.I.LabelIterator.left c.loop-label.labels) (g.I.LabelIterator.left c.args.labels) c.loop-label.invariant.text (search rules) (search rules)

pub returns-else-is_empty-clause-text : goal.returns-else-is_empty-clause-text
returns-else-is_empty-clause-text g c =
    named_some _ (g.I.LabelIterator.left c.loop-label.labels) (g.I.LabelIterator.left c.args.labels) c.loop-label.invariant.text (search rules) (search rules)
