use Rattle.std.proofs.Common.{◌∙◌}
use Rattle.domain_list.proofs.EqualSuffixLabels.{name_labels_short}
use Rattle.domain_list.proofs.Octetwise.{low_orders}
use Rattle.domain_list.proofs.comparing.lowercase_composed_order_names.Goals as goal

pub returns-in-Some-Some : goal.returns-in-Some-Some
returns-in-Some-Some g c =
    let xs = g.A.NameLabels.labels c.args.a.now in
    let ys = g.B.NameLabels.labels c.args.b.now in
    let flat = low_orders _ _ xs ys c.in-Some-Some.ensures.wire c.in-Some-Some.ensures'.wire (name_labels_short xs (g.met.A.NameLabels.lawful c.args.a.now)) (name_labels_short ys (g.met.B.NameLabels.lawful c.args.b.now)) in
    c.order_ignoring_case.ensures ∙ flat
