use Rattle.std.proofs.Common.{rules}
use Rattle.domain_lines.proofs.message.write_trailing.Goals as goal

pub returns-then-count-eq0-clause-written : goal.returns-then-count-eq0-clause-written
returns-then-count-eq0-clause-written g c =
    let none = g.met.W.Sink.nothing c.args.output.now in
    search rules
