use Rattle.domain_label.proofs.WireLaws.{absolute_wire}
use Rattle.domain_name.proofs.absolute.Name.iter.Goals as goal

pub new-requires : goal.new-requires
new-requires g c = rw c.as_slice.ensures.octets (absolute_wire c.args.self.now.absolute)
