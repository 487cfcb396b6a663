use Rattle.domain_label.proofs.WireLaws.{relative_wire}
use Rattle.domain_name.proofs.relative.RelativeName.is_label_start.Goals as goal

pub is_label_end-requires : goal.is_label_end-requires
is_label_end-requires g c = rw c.as_slice.ensures.octets (relative_wire c.args.self.now.relative)
