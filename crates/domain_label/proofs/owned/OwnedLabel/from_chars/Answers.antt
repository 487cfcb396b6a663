use Rattle.std.proofs.Common.{rules, ◌∙◌}
use Rattle.domain_label.proofs.LabelReading.{octet_read, fault_read, label_read}
use Rattle.domain_label.proofs.Scanning.{given_some, given_none}
use Rattle.domain_label.proofs.owned.OwnedLabel.from_chars.Goals as goal

pub loop-c-preserved : goal.loop-c-preserved
loop-c-preserved g c = record {
  can = search rules;
  ends = search rules;
  few = search rules;
  read = λ cs h.
      let now = c.loop-c.invariant.read cs h in
      let n = given_some g.I.Iterator.next_gives _ _ c.in-Some.c now.0 now.1 c.in-Some.ensures.steps in
      let o = c.in-Ok.ensures.octet n.0 n.2 in
      (o.0, o.2, octet_read cs c.loop-c.octets.items c.push.new.self.items now.0 n.0 o.0 c.in-Some.c c.in-Ok.octet c.is_empty.result now.2 n.1 c.is_empty.ensures o.1 c.push.ensures.items);
}

pub returns-in-Err : goal.returns-in-Err
returns-in-Err g c = λ cs h.
    let now = c.loop-c.invariant.read cs h in
    let n = given_some g.I.Iterator.next_gives _ _ c.in-Some.c now.0 now.1 c.in-Some.ensures.steps in
    fault_read cs c.loop-c.octets.items now.0 n.0 c.in-Some.c c.is_empty.result c.in-Err.kind _ now.2 n.1 (search rules) c.is_empty.ensures (c.in-Err.ensures.octet n.0 n.2) (search rules)

pub returns : goal.returns
returns g c = λ cs h.
    let now = c.loop-c.invariant.read cs h in
    label_read cs c.loop-c.octets.items now.0 _ now.2 (given_none g.I.Iterator.next_gives _ _ now.0 now.1 c.in_default.ensures.steps) c.loop-c.invariant.few (c.from_label.ensures ∙ c.of_short.ensures ∙ c.as_slice.ensures.value)
