use Rattle.domain_lines.proofs.Showing.{wrote_header}
use Rattle.domain_lines.proofs.message.write_header.Goals as goal

pub returns-clause-written : goal.returns-clause-written
returns-clause-written g c =
    let header = c.for_message_slice-header.ensures in
    let counts = c.for_message_slice-counts.ensures in
    wrote_header g.W.Sink.takes g.met.W.Sink.nothing g.met.W.Sink.joined c.args.message.now _ _ _ _ _ _ _ c.args.output.now _ _ _ header.id header.high header.low counts.qdcount counts.ancount counts.nscount counts.arcount c.in_ok-put_line.ensures.taken c.in_ok-put_line-2.ensures.taken c.in_ok-put_line-3.ensures.taken
