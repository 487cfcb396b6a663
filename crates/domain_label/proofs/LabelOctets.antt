-- What shape a label has, for the crates above.
use Rattle.domain_label.specs.declared.label.Label.{Label}
use Rattle.domain_label.specs.Labels.{label_octets}
use Rattle.domain_label.specs.Wire.{IsLabel}

-- it has at most 63 octets
pub label_short : (label : Label) → IsLabel (label_octets label)
label_short label = label.short
