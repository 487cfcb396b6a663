use Rattle.std.proofs.Common.{◌≡◌, ◌++◌, subst, ◌∙◌}
use Rattle.std.proofs.lemmas.Result.{on_ok_weaker}
use Rattle.octseq.specs.Parsing.{message, position}
use Rattle.domain_header.specs.Numbers.{number16}
use Rattle.domain_lines.specs.Messages.{header_lines, questions_heading}
use Rattle.domain_lines.proofs.Showing.{wrote_questions, stopped_questions}
use Rattle.domain_lines.proofs.message.write_to_questions.Goals as goal

pub returns-clause-written : goal.returns-clause-written
returns-clause-written g c =
    let m = message c.args.parser.now in
    let old = c.args.output.now in
    let mid = c.write_header.new.output in
    let count : c.qdcount-count.result ≡ number16 m 4 = subst (λ o. c.qdcount-count.result ≡ number16 o 4) c.as_slice-message.ensures (c.qdcount-count.ensures ∙ c.for_message_slice.ensures.qdcount) in
    let head : g.W.Sink.takes old mid (header_lines m ++ questions_heading) = subst (λ o. g.W.Sink.takes old mid (header_lines o ++ questions_heading)) c.as_slice-message.ensures c.in_default.ensures.written in
    on_ok_weaker c.write_questions.result (λ all. wrote_questions g.W.Sink.takes g.met.W.Sink.nothing g.met.W.Sink.joined m (position c.args.parser.now) (position c.write_questions.new.parser) c.qdcount-count.result old mid _ c.requires.long c.requires.start count head all) c.write_questions.ensures.written

pub returns-clause-refused : goal.returns-clause-refused
returns-clause-refused g c =
    let m = message c.args.parser.now in
    let old = c.args.output.now in
    let mid = c.write_header.new.output in
    let count : c.qdcount-count.result ≡ number16 m 4 = subst (λ o. c.qdcount-count.result ≡ number16 o 4) c.as_slice-message.ensures (c.qdcount-count.ensures ∙ c.for_message_slice.ensures.qdcount) in
    let head : g.W.Sink.takes old mid (header_lines m ++ questions_heading) = subst (λ o. g.W.Sink.takes old mid (header_lines o ++ questions_heading)) c.as_slice-message.ensures c.in_default.ensures.written in
    stopped_questions g.W.Sink.takes g.met.W.Sink.nothing g.met.W.Sink.joined m (position c.args.parser.now) c.qdcount-count.result old mid _ c.write_questions.result c.requires.long c.requires.start count head c.write_questions.ensures.refused
