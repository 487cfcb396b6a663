use Rattle.std.proofs.Common.{length}
use Rattle.domain_make.proofs.Opting.{PairsRead}
use Rattle.domain_make.proofs.opt.pairs_of.Given as goal

abbrev pub invariant-loop-rest : goal.invariant-loop-rest
invariant-loop-rest l = PairsRead l.text l.rest l.octets.items

abbrev pub decreases-loop-rest : goal.decreases-loop-rest
decreases-loop-rest l = length l.rest
