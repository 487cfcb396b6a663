use Rattle.std.proofs.Common.{◌↔◌, ◌<◌, ◌≤◌, ◌++◌, [], ◌∷◌, length, arith, sym, ap, ◌∙◌, subst, append_assoc, length-append, true≢false}
use Rattle.domain_label.specs.Wire.{wire}
use Rattle.domain_label.specs.Labels.{label_octets}
use Rattle.domain_list.specs.Ends.{EndsWith}
use Rattle.domain_list.proofs.SuffixBySize.{passed_first, ends_level, front_size}
use Rattle.domain_list.proofs.ends.ends_with_labels.Goals as goal

pub labels-init : goal.labels-init
labels-init g c =
    let ys = g.B.NameLabels.labels c.args.b.now in
    let e = c.iter_labels-rest.ensures in
    record {
      sized = c.compose_len-left.ensures ∙ ap (λ ls. length (wire ls)) (sym e);
      part = ([], sym e);
      same = subst (λ ls. EndsWith (g.A.LabelIter.LabelIterator.left c.iter_labels-rest.result) ys ↔ EndsWith ls ys) e (λ x. x, λ x. x);
    }

pub labels-preserved : goal.labels-preserved
labels-preserved g c =
    let xs = g.A.LabelIter.LabelIterator.left c.labels.rest in
    let rest = g.A.LabelIter.LabelIterator.left c.next_label-label.new.labels in
    let ys = g.B.NameLabels.labels c.args.b.now in
    let l = label_octets c.next_label-label.result in
    let more : length (wire ys) < length (wire xs) = omega (arith, c.labels-test.true, c.labels.invariant.sized, c.compose_len-size.ensures) in
    let s = passed_first xs ys rest l c.next_label-label.ensures more in
    let front = c.labels.invariant.part.0 in
    record {
      sized = omega (arith, c.labels.invariant.sized, c.len.ensures, ap (λ ls. length (wire ls)) c.next_label-label.ensures, length-append l (wire rest));
      part = (front ++ l ∷ [], c.labels.invariant.part.1 ∙ (ap (λ r. front ++ r) c.next_label-label.ensures ∙ sym (append_assoc front (l ∷ []) rest)));
      same = (λ e. c.labels.invariant.same.0 (s.0 e), λ e. s.1 (c.labels.invariant.same.1 e));
    }

pub returns-then-left-size : goal.returns-then-left-size
returns-then-left-size g c =
    let xs = g.A.LabelIter.LabelIterator.left c.labels.rest in
    let ys = g.B.NameLabels.labels c.args.b.now in (
      λ t. absurd (true≢false (sym t)),
      λ e. let p = c.labels.invariant.same.1 e in absurd (omega (arith, front_size xs ys p.0 p.1, c.labels.invariant.sized, c.compose_len-size.ensures, c.if-left-size.true)),
    )

pub returns : goal.returns
returns g c =
    let xs = g.A.LabelIter.LabelIterator.left c.labels.rest in
    let ys = g.B.NameLabels.labels c.args.b.now in
    let few : length (wire xs) ≤ length (wire ys) = omega (arith, c.labels-test.false, c.labels.invariant.sized, c.compose_len-size.ensures) in
    let s = ends_level xs ys few in
    (λ t. c.labels.invariant.same.0 (s.0 (c.is_end.ensures.0 t)), λ e. c.is_end.ensures.1 (s.1 (c.labels.invariant.same.1 e)))
