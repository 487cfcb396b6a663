use Rattle.std.proofs.Common.{◌≡◌, ◌++◌, length}
use Rattle.std.specs.List.{flat_map}
use Rattle.domain_rdata_text.specs.Words.{lists}
use Rattle.domain_rdata_text.specs.Names.{label_text}
use Rattle.domain_rdata_text.proofs.name.append_name.Given as goal

abbrev pub invariant-label : goal.invariant-label
invariant-label l = l.initial.text.items ++ flat_map label_text (lists l.fn.labels) ≡ l.text.items ++ flat_map label_text (lists l.rest)

abbrev pub decreases-label : goal.decreases-label
decreases-label l = length l.rest
