use Rattle.domain_list.proofs.EqualSuffixLabels.{name_labels_short}
use Rattle.domain_list.proofs.Beginning.{starts_by_octets}
use Rattle.domain_list.proofs.ends.begins_with_labels.Goals as goal

pub returns-in-Some-Some : goal.returns-in-Some-Some
returns-in-Some-Some g c =
    let xs = g.A.NameLabels.labels c.args.a.now in
    let ys = g.B.NameLabels.labels c.args.b.now in
    starts_by_octets c.begins_with_octets.result xs ys _ _ c.begins_with_octets.ensures c.in-Some-Some.ensures.wire c.in-Some-Some.ensures'.wire (name_labels_short xs (g.met.A.NameLabels.lawful c.args.a.now)) (name_labels_short ys (g.met.B.NameLabels.lawful c.args.b.now))
