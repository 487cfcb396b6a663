use Rattle.std.proofs.Common.{◌≤◌, ◌-◌, length, arith, ap, subst, ◌∙◌}
use Rattle.domain_label.specs.Wire.{AreLabels}
use Rattle.domain_list.proofs.EqualSuffixLabels.{name_labels_short, labels_after}
use Rattle.domain_label.proofs.ComparedOctets.{sliced_end}
use Rattle.domain_list.proofs.Octetwise.{same_labels_of, last_of_wire, end_fits}
use Rattle.domain_list.proofs.ends.is_end.Goals as goal

pub overflow_sub-a : goal.overflow_sub-a
overflow_sub-a g c =
    end_fits _ _ (g.A.NameLabels.labels c.args.a.now) c.requires.part.0 (g.A.LabelIter.LabelIterator.left c.args.rest) (g.B.NameLabels.labels c.args.b.now) c.in-Some-Some.ensures.wire c.requires.part.1 c.in-Some-Some.ensures'.wire c.requires.sized

pub returns-in-Some-Some : goal.returns-in-Some-Some
returns-in-Some-Some g c =
    let all = g.A.NameLabels.labels c.args.a.now in
    let rest = g.A.LabelIter.LabelIterator.left c.args.rest in
    let ys = g.B.NameLabels.labels c.args.b.now in
    let a = c.in-Some-Some.a.now in
    let b = c.in-Some-Some.b.now in
    let fits : length b ≤ length a = end_fits a b all c.requires.part.0 rest ys c.in-Some-Some.ensures.wire c.requires.part.1 c.in-Some-Some.ensures'.wire c.requires.sized in
    let tail = last_of_wire a all c.requires.part.0 rest (length a - length b) c.in-Some-Some.ensures.wire c.requires.part.1 (omega (arith, fits, c.requires.sized, ap length c.in-Some-Some.ensures'.wire)) in
    let labels = labels_after c.requires.part.0 rest (subst AreLabels c.requires.part.1 (name_labels_short all (g.met.A.NameLabels.lawful c.args.a.now))) in
    same_labels_of c.same_octets.result rest ys _ _ c.same_octets.ensures (sliced_end a (length a - length b) (omega arith) ∙ tail) c.in-Some-Some.ensures'.wire labels (name_labels_short ys (g.met.B.NameLabels.lawful c.args.b.now))
