use Rattle.std.proofs.Common.{◌≡◌, ◌++◌, ◌-◌, length}
use Rattle.domain_label.specs.Wire.{wire}
use Rattle.domain_rdata_text.specs.Words.{lists}
use Rattle.domain_rdata_text.specs.Names.{are_labels_in}
use Rattle.domain_rdata_text.proofs.name.push_labels.Given as goal

abbrev pub invariant-label : goal.invariant-label
invariant-label l = record {
  octets : l.initial.made.items ++ (wire (lists l.fn.labels) ++ l.fn.end) ≡ l.made.items ++ (wire (lists l.rest) ++ l.fn.end);
  labels : are_labels_in (255 - length l.fn.end) (lists l.fn.labels) ≡ are_labels_in l.room (lists l.rest);
}

abbrev pub decreases-label : goal.decreases-label
decreases-label l = length l.rest
