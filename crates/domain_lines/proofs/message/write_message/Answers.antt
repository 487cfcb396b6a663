use Rattle.std.proofs.Common.{◌≡◌, ◌<◌, length, refl, subst, ◌∙◌}
use Rattle.std.proofs.lemmas.Result.{on_ok_weaker}
use Rattle.octseq.specs.Parsing.{message, position}
use Rattle.domain_message.specs.ParserFacts.{same_message}
use Rattle.domain_lines.specs.Messages.{ShowsAuthority}
use Rattle.domain_lines.specs.Writing.{Wrote}
use Rattle.domain_lines.proofs.Showing.{stopped_short, stopped_additional, wrote_message}
use Rattle.domain_lines.proofs.message.write_message.Goals as goal

pub returns-in-Err-clause-refused : goal.returns-in-Err-clause-refused
returns-in-Err-clause-refused g c =
    let short = subst (λ o. length o < 12) c.from_ref-parser.ensures.message (c.in-Err.ensures.short.0 refl) in
    stopped_short g.W.Sink.takes g.met.W.Sink.nothing g.met.W.Sink.joined c.args.message.now c.args.output.now short

pub returns-clause-written : goal.returns-clause-written
returns-clause-written g c =
    let m = c.args.message.now in
    let old = c.args.output.now in
    let mid = c.write_to_authority.new.output in
    let start : message c.seek.new.self ≡ m = same_message _ _ _ c.in_default.ensures.ok ∙ c.from_ref-parser.ensures.message in
    let before = subst (λ o. Wrote (ShowsAuthority o (position c.write_to_authority.new.parser)) (g.W.Sink.takes old mid)) start c.in_default-write_to_authority.ensures.written in
    let same = same_message _ _ _ c.in_default-write_to_authority.ensures.moves ∙ start in
    on_ok_weaker c.write_rest.result (λ rest. wrote_message g.W.Sink.takes g.met.W.Sink.nothing g.met.W.Sink.joined m (message c.write_to_authority.new.parser) (position c.write_to_authority.new.parser) old mid _ same before rest) c.write_rest.ensures.written

pub returns-clause-refused : goal.returns-clause-refused
returns-clause-refused g c =
    let m = c.args.message.now in
    let old = c.args.output.now in
    let mid = c.write_to_authority.new.output in
    let start : message c.seek.new.self ≡ m = same_message _ _ _ c.in_default.ensures.ok ∙ c.from_ref-parser.ensures.message in
    let before = subst (λ o. Wrote (ShowsAuthority o (position c.write_to_authority.new.parser)) (g.W.Sink.takes old mid)) start c.in_default-write_to_authority.ensures.written in
    let same = same_message _ _ _ c.in_default-write_to_authority.ensures.moves ∙ start in
    stopped_additional g.W.Sink.takes g.met.W.Sink.nothing g.met.W.Sink.joined m (message c.write_to_authority.new.parser) (position c.write_to_authority.new.parser) old mid _ c.write_rest.result same before c.write_rest.ensures.refused
