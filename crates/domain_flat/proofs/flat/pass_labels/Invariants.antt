use Rattle.std.proofs.Common.{ℕ, List, length}
use Rattle.domain_flat.specs.Flat.{LabelsBefore}
use Rattle.domain_flat.proofs.flat.pass_labels.Given as goal

abbrev pub invariant-loop-rest : goal.invariant-loop-rest
invariant-loop-rest l = (fs : List (List ℕ)) × LabelsBefore l.octets fs l.rest

abbrev pub decreases-loop-rest : goal.decreases-loop-rest
decreases-loop-rest l = length l.rest
