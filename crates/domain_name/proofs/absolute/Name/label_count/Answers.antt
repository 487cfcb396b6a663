use Rattle.std.proofs.Common.{length, arith, inl, ap}
use Rattle.domain_label.proofs.WireLaws.{labels_le_wire}
use Rattle.domain_name.specs.Names.{name_labels}
use Rattle.domain_name.proofs.absolute.Name.label_count.Goals as goal

pub count-requires-clause-fits : goal.count-requires-clause-fits
count-requires-clause-fits g c =
    let ls = name_labels c.args.self.now in
    inl (omega (arith, labels_le_wire ls, c.args.self.now.absolute.1.1, ap length c.iter.ensures))
