use Rattle.octseq.specs.Parsing.{message, position}
use Rattle.domain_message.specs.ParserFacts.{same_message}
use Rattle.domain_lines.proofs.Showing.{wrote_rest}
use Rattle.domain_lines.proofs.message.write_rest.Goals as goal

pub returns-clause-written : goal.returns-clause-written
returns-clause-written g c =
    let m = message c.args.parser.now in
    let after = c.write_section.new.parser in
    let same = same_message _ _ _ c.in_default.ensures.moves in
    wrote_rest g.W.Sink.takes g.met.W.Sink.nothing g.met.W.Sink.joined m (message after) (position c.args.parser.now) (position after) c.remaining.result c.args.output.now _ _ same c.remaining.ensures c.in_default.ensures.written c.in_ok-write_trailing.ensures.written
