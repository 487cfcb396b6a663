use Rattle.std.proofs.Common.{arith, refl}
use Rattle.domain_label.proofs.WireLaws.{labels_le_wire}
use Rattle.domain_traits.proofs.to_name.ToName.rrsig_label_count.Goals as goal

pub rrsig_count-requires : goal.rrsig_count-requires
rrsig_count-requires g c κs =
    ((refl, tt), rw c.iter_labels.ensures (omega (arith, labels_le_wire (g.Self.NameLabels.labels c.args.self.now), (g.met.Self.Absolute.absolute c.args.self.now).1)))
