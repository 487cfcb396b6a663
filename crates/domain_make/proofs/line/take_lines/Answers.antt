use Rattle.std.proofs.Common.{arith}
use Rattle.domain_make.proofs.Drafting.{taken_none, taken_more, taken_all, line_refused}
use Rattle.domain_make.proofs.line.take_lines.Goals as goal

pub loop-at-init : goal.loop-at-init
loop-at-init g c = record { taken = taken_none _ _ _; few = omega arith }

pub loop-at-preserved : goal.loop-at-preserved
loop-at-preserved g c = record {
  taken = taken_more _ _ _ _ _ _ _ _ _ _ _ c.loop-at.invariant.taken c.line_end-end.ensures c.octets_from-ahead.ensures c.in-Ok.ensures.ok;
  few = omega (arith, c.line_end-end.ensures.ahead);
}

pub returns-in-Err-clause-refused : goal.returns-in-Err-clause-refused
returns-in-Err-clause-refused g c = line_refused _ _ _ _ _ _ _ _ _ _ _ c.loop-at.invariant.taken c.loop-at-test.true c.line_end-end.ensures c.octets_from-ahead.ensures c.in-Err.ensures.err c.refused_line.ensures.line

pub returns-clause-all : goal.returns-clause-all
returns-clause-all g c = taken_all _ _ _ _ _ _ _ c.loop-at.invariant.taken c.loop-at-test.false
