use Rattle.std.proofs.Common.{rules, arith, ◌≡◌, ◌≤◌, ◌∷◌, List, ℕ, ap, length}
use Rattle.domain_label.specs.Labels.{label_octets}
use Rattle.domain_label.specs.Wire.{wire}
use Rattle.domain_list.specs.Dotted.{dotted}
use Rattle.domain_list.proofs.DottedText.{step_dots, few_labels}
use Rattle.domain_list.proofs.unescaped.put_dots.Goals as goal

pub overflow_add-count : goal.overflow_add-count
overflow_add-count g c =
    let e : g.I.LabelIterator.left c.loop-label.labels ≡ label_octets c.in-Some.label ∷ g.I.LabelIterator.left c.next.new.self = search rules in
    omega (arith, ap (λ (r : List (List ℕ)). length r) e, c.loop-label.invariant.count, few_labels (g.I.LabelIterator.left c.args.labels), c.requires.fits)

pub loop-label-preserved : goal.loop-label-preserved
loop-label-preserved g c =
    let e : g.I.LabelIterator.left c.loop-label.labels ≡ label_octets c.in-Some.label ∷ g.I.LabelIterator.left c.next.new.self = search rules in
    let fits : length (wire (g.I.LabelIterator.left c.args.labels)) ≤ length c.loop-label.octets = search rules in
    let s = step_dots c.loop-label.octets (label_octets c.in-Some.label) c.loop-label.at c.len.result (length (wire (g.I.LabelIterator.left c.args.labels))) (g.I.LabelIterator.left c.loop-label.labels) (g.I.LabelIterator.left c.next.new.self) (dotted (g.I.LabelIterator.left c.args.labels)) c.len.ensures e c.loop-label.invariant.size fits c.loop-label.invariant.there c.loop-label.invariant.made in
    record {
      can = search rules;
      ends = search rules;
      size = s.2;
      made = s.0;
      there = s.1;
      count = omega (arith, ap (λ (r : List (List ℕ)). length r) e, c.loop-label.invariant.count);
    }
