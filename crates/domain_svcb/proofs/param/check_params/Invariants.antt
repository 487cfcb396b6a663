use Rattle.std.proofs.Common.{length}
use Rattle.domain_svcb.proofs.ParamWalk.{Walked}
use Rattle.domain_svcb.proofs.param.check_params.Given as goal

abbrev pub invariant-loop-rest : goal.invariant-loop-rest
invariant-loop-rest l = Walked l.octets l.least l.rest

abbrev pub decreases-loop-rest : goal.decreases-loop-rest
decreases-loop-rest l = length l.rest
