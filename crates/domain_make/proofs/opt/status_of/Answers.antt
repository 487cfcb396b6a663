use Rattle.std.proofs.Common.{arith}
use Rattle.domain_make.specs.Opts.IsStatusText.{numbered}
use Rattle.domain_make.proofs.opt.status_of.Goals as goal

pub returns-clause-some : goal.returns-clause-some
returns-clause-some c = numbered _ c.in-Some.ensures c.in-Some-number_below.ensures.some (omega arith)
