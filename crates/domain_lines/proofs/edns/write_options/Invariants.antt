use Rattle.std.proofs.Common.{length}
use Rattle.domain_lines.proofs.Entries.{Listed}
use Rattle.domain_lines.proofs.edns.write_options.Given as goal

abbrev pub invariant-loop-rest : goal.invariant-loop-rest
invariant-loop-rest g l = Listed l.fn.octets l.rest (g.W.Sink.takes l.initial.output l.output)

abbrev pub decreases-loop-rest : goal.decreases-loop-rest
decreases-loop-rest g l = length l.rest
