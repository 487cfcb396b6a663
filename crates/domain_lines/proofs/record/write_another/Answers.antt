use Rattle.std.proofs.Common.{rules}
use Rattle.domain_lines.proofs.record.write_another.Goals as goal

pub returns-then-not-another-clause-written : goal.returns-then-not-another-clause-written
returns-then-not-another-clause-written g c =
    let none = g.met.W.Sink.nothing c.args.output.now in
    search rules
