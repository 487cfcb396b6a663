use Rattle.std.proofs.lemmas.Result.{on_ok_weaker}
use Rattle.octseq.specs.Parsing.{message, position}
use Rattle.domain_message.specs.ParserFacts.{same_message}
use Rattle.domain_lines.proofs.Showing.{stopped_answers, wrote_answers}
use Rattle.domain_lines.proofs.message.write_to_answers.Goals as goal

pub returns-clause-written : goal.returns-clause-written
returns-clause-written g c =
    let same = same_message _ _ _ c.in_default.ensures.moves in
    on_ok_weaker c.write_section.result (λ here. wrote_answers g.W.Sink.takes g.met.W.Sink.nothing g.met.W.Sink.joined (message c.args.parser.now) (message c.write_to_questions.new.parser) (position c.write_to_questions.new.parser) (position c.write_section.new.parser) _ _ _ same c.in_default.ensures.written here) c.write_section.ensures.written

pub returns-clause-refused : goal.returns-clause-refused
returns-clause-refused g c =
    let same = same_message _ _ _ c.in_default.ensures.moves in
    stopped_answers g.W.Sink.takes g.met.W.Sink.nothing g.met.W.Sink.joined (message c.args.parser.now) (message c.write_to_questions.new.parser) (position c.write_to_questions.new.parser) _ _ _ c.write_section.result same c.in_default.ensures.written c.write_section.ensures.refused
