use Rattle.domain_header.specs.Values.{rcode_number}
use Rattle.domain_lines.proofs.Showing.{Recorded}
use Rattle.domain_lines.proofs.message.write_records.Given as goal

abbrev pub invariant-loop-record : goal.invariant-loop-record
invariant-loop-record g l = Recorded (rcode_number l.rcode) l.section l.initial.parser l._record l.parser (g.W.Sink.takes l.initial.output l.output) l.opt_seen
