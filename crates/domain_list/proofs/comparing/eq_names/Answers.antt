use Rattle.std.proofs.Common.{length, refl, sym, ap, subst, ◌∙◌}
use Rattle.domain_label.specs.Wire.{wire, AreLabels}
use Rattle.domain_list.proofs.EqualSuffixLabels.{name_labels_short}
use Rattle.domain_list.proofs.Octetwise.{same_labels_of}
use Rattle.domain_list.proofs.comparing.eq_names.Goals as goal

pub returns-in-Some-Some : goal.returns-in-Some-Some
returns-in-Some-Some g c =
    let xs = g.A.NameLabels.labels c.args.a.now in
    let ys = g.B.NameLabels.labels c.args.b.now in
    same_labels_of c.same_octets.result xs ys _ _ c.same_octets.ensures c.in-Some-Some.ensures.wire c.in-Some-Some.ensures'.wire (name_labels_short xs (g.met.A.NameLabels.lawful c.args.a.now)) (name_labels_short ys (g.met.B.NameLabels.lawful c.args.b.now))

pub eq_flat-requires : goal.eq_flat-requires
eq_flat-requires g c κs =
    let ys = g.B.NameLabels.labels c.args.b.now in
    ((refl, tt), (c.compose_len.ensures ∙ ap (λ ls. length (wire ls)) (sym c.iter_labels.ensures), subst AreLabels (sym c.iter_labels.ensures) (name_labels_short ys (g.met.B.NameLabels.lawful c.args.b.now))))

pub returns-in-Some-None : goal.returns-in-Some-None
returns-in-Some-None g c =
    let xs = g.A.NameLabels.labels c.args.a.now in
    let ys = g.B.NameLabels.labels c.args.b.now in
    same_labels_of c.eq_flat.result xs ys _ _ c.eq_flat.ensures c.in-Some-None.ensures.wire (ap wire c.iter_labels.ensures) (name_labels_short xs (g.met.A.NameLabels.lawful c.args.a.now)) (name_labels_short ys (g.met.B.NameLabels.lawful c.args.b.now))

pub eq_flat-requires-in-None-Some : goal.eq_flat-requires-in-None-Some
eq_flat-requires-in-None-Some g c κs =
    let xs = g.A.NameLabels.labels c.args.a.now in
    let left = c.iter_labels-in-None-Some.ensures in
    ((refl, tt), (c.compose_len-in-None-Some.ensures ∙ ap (λ ls. length (wire ls)) (sym left), subst AreLabels (sym left) (name_labels_short xs (g.met.A.NameLabels.lawful c.args.a.now))))

pub returns-in-None-Some : goal.returns-in-None-Some
returns-in-None-Some g c =
    let xs = g.A.NameLabels.labels c.args.a.now in
    let ys = g.B.NameLabels.labels c.args.b.now in
    let s = same_labels_of c.eq_flat-in-None-Some.result ys xs _ _ c.eq_flat-in-None-Some.ensures c.in-None-Some.ensures'.wire (ap wire c.iter_labels-in-None-Some.ensures) (name_labels_short ys (g.met.B.NameLabels.lawful c.args.b.now)) (name_labels_short xs (g.met.A.NameLabels.lawful c.args.a.now)) in
    (λ t. sym (s.0 t), λ e. s.1 (sym e))
