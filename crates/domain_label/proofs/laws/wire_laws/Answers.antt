use Rattle.domain_label.proofs.WireLaws.{labels_in_wire, wire_once, not_both}
use Rattle.domain_label.proofs.laws.wire_laws.Goals as goal

pub returns : goal.returns
returns c = record { spelled = labels_in_wire; once = wire_once; apart = not_both }
