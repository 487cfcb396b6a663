use Rattle.std.proofs.Common.{ℕ, List, length}
use Rattle.domain_txt.specs.Strings.{StringsBefore}
use Rattle.domain_txt.proofs.txt_iter.check_strings.Given as goal

abbrev pub invariant-loop-rest : goal.invariant-loop-rest
invariant-loop-rest l = (ss : List (List ℕ)) × StringsBefore l.octets ss l.rest

abbrev pub decreases-loop-rest : goal.decreases-loop-rest
decreases-loop-rest l = length l.rest
