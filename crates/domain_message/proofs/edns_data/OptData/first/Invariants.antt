use Rattle.std.proofs.Common.{length}
use Rattle.domain_message.specs.FirstOptions.{PassesOthers}
use Rattle.domain_message.specs.OptDataViews.{opt_octets}
use Rattle.domain_message.proofs.edns_data.OptData.first.Given as goal

abbrev pub invariant-loop-rest : goal.invariant-loop-rest
invariant-loop-rest l = PassesOthers l.fn.code (opt_octets l.fn.self) l.rest

abbrev pub decreases-loop-rest : goal.decreases-loop-rest
decreases-loop-rest l = length l.rest
