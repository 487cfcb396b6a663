use Rattle.domain_label.proofs.WireLaws.{relative_wire}
use Rattle.domain_name.proofs.relative.RelativeName+ref+slice+u8.split_slice.Goals as goal

pub new-labels-requires : goal.new-labels-requires
new-labels-requires c = relative_wire c.args.self.relative
