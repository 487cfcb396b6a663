use Rattle.std.proofs.Common.{◌≡◌, ◌≤◌, ◌-◌, ◌++◌, ℕ, List, length}
use Rattle.domain_label.specs.Wire.{IsWire, labels_in}
use Rattle.dnsnames_c.proofs.label.offset_of.Given as goal

abbrev pub invariant-labels : goal.invariant-labels
invariant-labels l = record {
  wire_form : IsWire l.rest;
  few : l.passed ≤ l.index;
  parts : (xs : List (List ℕ)) × (labels_in l.name ≡ xs ++ labels_in l.rest) × (length xs ≡ l.passed);
}

abbrev pub decreases-labels : goal.decreases-labels
decreases-labels l = l.index - l.passed
