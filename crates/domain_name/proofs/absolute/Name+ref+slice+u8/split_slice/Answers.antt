use Rattle.domain_label.proofs.WireLaws.{absolute_wire}
use Rattle.domain_name.proofs.absolute.Name+ref+slice+u8.split_slice.Goals as goal

pub new-labels-requires : goal.new-labels-requires
new-labels-requires c = absolute_wire c.args.self.absolute
