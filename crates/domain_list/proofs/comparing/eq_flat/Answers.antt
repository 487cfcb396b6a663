use Rattle.std.proofs.Common.{rules, arith, refl, sym, ◌∙◌, ap, ◌+◌, true≢false}
use Rattle.domain_label.specs.Labels.{label_octets}
use Rattle.domain_label.specs.Lowercase.{lowercase}
use Rattle.domain_list.proofs.Flatwise.{step, label_same}
use Rattle.domain_list.proofs.comparing.eq_flat.Goals as goal

pub returns-then-not-same_octets : goal.returns-then-not-same_octets
returns-then-not-same_octets g c =
    let xs = g.I.LabelIterator.left c.loop-label.labels in
    let ls = g.I.LabelIterator.left c.next.new.self in
    let there = label_same c.loop-label.rest.now (label_octets c.in-Some.label) xs ls _ (search rules) c.loop-label.invariant.short c.loop-label.invariant.size (ap (λ n. 1 + n) c.len-end.ensures) in (
      λ t. absurd (true≢false (sym t)),
      λ e. c.if-not-same_octets.ensures.1 ((there (c.loop-label.invariant.same.0 e)).1 ∙ ap lowercase (sym c.as_slice.ensures)),
    )

pub loop-label-preserved : goal.loop-label-preserved
loop-label-preserved g c =
    let xs = g.I.LabelIterator.left c.loop-label.labels in
    let ls = g.I.LabelIterator.left c.next.new.self in
    let s = step c.loop-label.rest.now (label_octets c.in-Some.label) xs ls _ (search rules) c.loop-label.invariant.short c.loop-label.invariant.size (ap (λ n. 1 + n) c.len-end.ensures) (omega (arith, c.from-in-Some.ensures, c.if-from-len.false, c.len.ensures)) (c.if-not-same_octets.ensures.0 refl ∙ ap lowercase c.as_slice.ensures) in
    record {
      can = search rules;
      ends = search rules;
      size = s.size;
      short = s.short;
      same = (λ e. s.same.0 (c.loop-label.invariant.same.0 e), λ e. c.loop-label.invariant.same.1 (s.same.1 e));
    }
