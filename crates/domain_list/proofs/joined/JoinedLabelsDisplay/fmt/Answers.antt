use Rattle.std.proofs.Common.{rules, ◌≡◌, ◌∙◌, subst}
use Rattle.std.specs.Fmt.{HasWritten}
use Rattle.domain_label.specs.Labels.{label_octets}
use Rattle.domain_list.specs.Joined.{joined_labels}
use Rattle.domain_list.proofs.TextThroughBuffer.{moved_on, moved_label, moved_end, first_text}
use Rattle.domain_list.proofs.joined.JoinedLabelsDisplay.fmt.Goals as goal

pub loop-label-preserved : goal.loop-label-preserved
loop-label-preserved g c = record {
  can = search rules;
  ends = search rules;
  ascii = c.push_dot_before.ensures.ascii;
  moved = λ plain.
      let m = c.loop-label.invariant.moved plain in
      let n = c.in_ok-make_room.ensures.moved m.wrote.plain in
      moved_label g.W.Write.write_str_gives _ _ _ _ _ (label_octets c.in-Some-next.label) (g.I.LabelIterator.left c.loop-label.labels) (g.I.LabelIterator.left c.next-in-loop-label.new.self)
      (moved_on g.W.Write.write_str_gives c.args.f.now c.loop-label.f c.make_room.new.f _ c.loop-label.text.items _ c.make_room.new.text.items m n)
      (search rules)
      c.push_dot_before.ensures.text;
}

pub returns-clause-writes : goal.returns-clause-writes
returns-clause-writes g c = λ plain ok.
    let m = c.loop-label.invariant.moved plain in
    let same : c.ascii_text.result.now ≡ c.loop-label.text.items = c.ascii_text.ensures ∙ c.as_slice-2.ensures.value in
    let last = subst (λ bs. HasWritten g.W.Write.write_str_gives c.loop-label.f bs c.write_str.new.self) same (c.write_str.ensures.writes m.wrote.plain ok) in
    let whole = moved_end g.W.Write.write_str_gives c.args.f.now c.loop-label.f c.write_str.new.self _ c.loop-label.text.items (g.I.LabelIterator.left c.loop-label.labels) m (search rules) last in
    let all = first_text c.push_label.new.text.items c.new-text.result.items (label_octets c.in-Some.first) c.as_slice.result.now (g.I.LabelIterator.left (joined_labels c.args.self.now)) (g.I.LabelIterator.left c.next.new.self) (search rules) c.push_label.ensures.spelled (search rules) (search rules) in
    subst (λ bs. HasWritten g.W.Write.write_str_gives c.args.f.now bs c.write_str.new.self) all whole
