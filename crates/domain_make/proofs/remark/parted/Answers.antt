use Rattle.std.proofs.Common.{arith}
use Rattle.domain_make.proofs.Texts.{before_without}
use Rattle.domain_make.proofs.remark.parted.Goals as goal

pub returns-then-text-at-clause-first : goal.returns-then-text-at-clause-first
returns-then-text-at-clause-first c = before_without c.args.octet c.args.text.now c.loop-at.at (omega arith) c.loop-at.invariant
