use Rattle.domain_label.proofs.WireLaws.{relative_wire}
use Rattle.domain_name.proofs.relative.RelativeName.iter.Goals as goal

pub new-requires : goal.new-requires
new-requires g c = rw c.as_slice.ensures.octets (relative_wire c.args.self.now.relative)
