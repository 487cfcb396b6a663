use Rattle.std.proofs.Common.{length}
use Rattle.domain_make.proofs.Opting.{OptionsRead}
use Rattle.domain_make.proofs.opt.options_ahead.Given as goal

abbrev pub invariant-loop-rest : goal.invariant-loop-rest
invariant-loop-rest l = OptionsRead l.ahead l.rest l.options.items

abbrev pub decreases-loop-rest : goal.decreases-loop-rest
decreases-loop-rest l = length l.rest
