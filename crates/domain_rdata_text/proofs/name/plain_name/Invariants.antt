use Rattle.std.proofs.Common.{◌≡◌, ◌++◌, length}
use Rattle.domain_label.specs.Wire.{IsAbsolute, wire}
use Rattle.domain_parsed.specs.ParsedNames.{parsed_labels, labels_left}
use Rattle.domain_rdata_text.specs.Words.{lists}
use Rattle.domain_rdata_text.proofs.name.plain_name.Given as goal

abbrev pub invariant-label : goal.invariant-label
invariant-label l = record {
  labels : parsed_labels l.fn.name ≡ lists l.made.items ++ labels_left l.labels;
  octets : l.initial.octets.items ++ wire (parsed_labels l.fn.name) ≡ l.octets.items ++ wire (labels_left l.labels);
  absolute : IsAbsolute (labels_left l.labels);
}

abbrev pub decreases-label : goal.decreases-label
decreases-label l = length (labels_left l.labels)
