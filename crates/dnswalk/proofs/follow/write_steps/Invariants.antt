use Rattle.std.proofs.Common.{◌+◌, ◌-◌}
use Rattle.dnswalk.proofs.Telling.{IsErrorOfText}
use Rattle.dnswalk.proofs.follow.write_steps.Given as goal

abbrev pub invariant-heads : goal.invariant-heads
invariant-heads g l = IsErrorOfText l.message l.offset l.progress l.table l.initial.heads l.heads (g.W.Sink.contents l.initial.output) (g.W.Sink.contents l.output)

-- a label makes the octets more, and a pointer the pointers
abbrev pub decreases-heads : goal.decreases-heads
decreases-heads g l = 510 - (l.progress.pointers + l.progress.len)
