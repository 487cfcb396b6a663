use Rattle.std.proofs.Common.{◌≡◌, ◌≤◌, ◌∙◌, [], length, refl, arith, ap, subst₂, rules}
use Rattle.octseq.specs.Parsing.{message, position}
use Rattle.domain_message.specs.Entries.{RecordAt}
use Rattle.domain_message.specs.Entries.NoNameBefore.{no_name}
use Rattle.domain_message.specs.Entries.NoRecord.{no_header}
use Rattle.domain_message.specs.ParserFacts.{same_message}
use Rattle.domain_message.specs.RecordModel.{record_fields}
use Rattle.domain_parsed.proofs.NoNamePastEnd.{past_end}
use Rattle.domain_lines.proofs.Laying.{holds_nothing}
use Rattle.domain_lines.proofs.put.put_record.Goals as goal

pub returns-in-Err : goal.returns-in-Err
returns-in-Err c =
    let past : length c.args.message.now ≤ c.args.offset = omega (arith, c.in-Err.ensures.short.0 refl, ap length c.from_ref-parser.ensures.message) in
    (no_header (no_name (past_end 255 c.args.message.now c.args.offset past)), refl, refl)

pub returns-in-Ok-written : goal.returns-in-Ok-written
returns-in-Ok-written c =
    let it = record_fields c.in-Ok.found in
    let same : message c.seek.new.self ≡ c.args.message.now = same_message _ _ _ c.in_default.ensures.ok ∙ c.from_ref-parser.ensures.message in
    let found = subst₂ (λ m p. RecordAt m p it (position c.parse.new.parser)) same c.in_default.ensures.ok.offset c.in-Ok.ensures.ok in
    let line = c.in-Ok-written.ensures.written in
    let name = line.2.same in
    let held = line.2.behind c.args.buffer.now [] (holds_nothing c.args.buffer.now) in
    (it, _, line.0, found, line.1, search rules)
